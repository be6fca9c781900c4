-- What the writer refuses by 14 the reader would refuse, by the same number.
use Prim.Native.Nat.{ℕ, ◌+◌, ◌-◌, ◌*◌, ◌^◌, ◌<◌, ◌≤◌}
use mathlib.Core.Path.{◌≡◌, refl, sym, ◌∙◌}
use mathlib.Core.Bool.{true, false}
use mathlib.Core.List.{List, [], ◌∷◌, ◌++◌, append_assoc, append-nil}
use native.Mathlib.Omega.{arith}
use borrow.Author.Tests.{eq-eqb, ne_eqb, eqb-true, eqb-false, leb-true, leb-false, le-leb, le-ltb, lt-ltb}
use lib.Dec.{eqb, leb}
use lib.ListN.{length, drop}
use Rattle.kinds.specs.Refusals.{order}
use Rattle.kinds.proofs.Refusing.{true-false}
use Rattle.fields.specs.Fields.{field, encode, zeros}
use Rattle.fields.proofs.Fields.{length-encode, field-as}
use Rattle.extensions.specs.Extensions.{pairs, Extent, Array, extents_bytes, pointers_bytes, pointed_bytes, array_bytes, pointers_answer}
use Rattle.extensions.specs.Extensions.{count_at, array_at, counted_answer, pointed_answer, front_answer, array_answer, extensions_answer}
use Rattle.extension_writer.specs.Writing.{entry_writable, extents_writable, writable}
use Rattle.extension_writer.specs.Statements.{Fits, AllNarrow, WriterAsReader}
use Rattle.bindings.proofs.ListBytes.{by_bool}
use Rattle.extension_writer.proofs.Forward.{stands, read_back}

-- a null pointer among the pointers is refused by 14
null-pointer : (s : List ℕ) (p : ℕ) (es : List Extent) (rest : List ℕ) → p ≤ length s → AllNarrow es → extents_writable es ≡ false
    → drop p s ≡ pointers_bytes es ++ rest → pointers_answer s p (length es) ≡ 14
unfolding extents_writable entry_writable pointers_bytes pointers_answer order
null-pointer s p [] rest h AllNarrow.none w d = absurd (true-false w)
null-pointer s p (e ∷ es) rest h (AllNarrow.more n l ms) w d =
    let q = stands s p (encode 4 e.pointer) (pointers_bytes es ++ rest) 4 (length-encode 4 e.pointer) h (d ∙ append_assoc (encode 4 e.pointer) (pointers_bytes es) rest) in
    let pointer : field s p 4 ≡ e.pointer = field-as s p 4 e.pointer q.here q.room n in
    by_bool (eqb e.pointer 0)
    (λ z. rw (le-leb _ _ q.room, pointer, z))
    (λ z.
    let others : extents_writable es ≡ false = rw (z, lt-ltb _ _ n, le-leb _ _ l) at w in
    rw (le-leb _ _ q.room, pointer, z, null-pointer s (p + 4) es rest q.room ms others q.next))

-- the fields of an array
record Own (s : List ℕ) (at : ℕ) (a : Array) (rest : List ℕ) : Type 0 where
  header : field s at 4 ≡ a.header
  count : count_at s at ≡ length a.extents
  reserved : field s (at + 8) 4 ≡ 0
  pointer : array_at s at ≡ a.pointer
  room : at + 16 ≤ length s
  next : drop (at + 16) s ≡ rest

own : (s : List ℕ) (at : ℕ) (a : Array) (rest : List ℕ) → at ≤ length s → Fits a → length a.extents < 2 ^ 32
    → drop at s ≡ encode 4 a.header ++ (encode 4 (length a.extents) ++ (encode 4 0 ++ (encode 4 a.pointer ++ rest))) → Own s at a rest
own s at a rest h f l d =
    let n = length a.extents in
    let p = stands s at (encode 4 a.header) _ 4 (length-encode 4 a.header) h d in
    let c = stands s (at + 4) (encode 4 n) _ 4 (length-encode 4 n) p.room p.next in
    let i : at + 4 + 4 ≡ at + 8 = omega arith in
    let r = stands s (at + 8) (encode 4 0) _ 4 (length-encode 4 0) (rw i at c.room) (rw i at c.next) in
    let j : at + 8 + 4 ≡ at + 12 = omega arith in
    let q = stands s (at + 12) (encode 4 a.pointer) rest 4 (length-encode 4 a.pointer) (rw j at r.room) (rw j at r.next) in
    let k : at + 12 + 4 ≡ at + 16 = omega arith in
    record {
      header = field-as s at 4 a.header p.here p.room f.header;
      count = field-as s (at + 4) 4 n c.here c.room l;
      reserved = field-as s (at + 8) 4 0 r.here r.room (omega arith);
      pointer = field-as s (at + 12) 4 a.pointer q.here q.room f.pointer;
      room = rw k at q.room;
      next = rw k at q.next;
    }

-- more than 32
many : (s : List ℕ) (at : ℕ) (a : Array) (rest : List ℕ) → (a.header ≡ 0 → ⊥) → 32 < length a.extents → Own s at a rest → extensions_answer s at ≡ 14
unfolding extensions_answer array_answer front_answer order
many s at a rest z l o =
    let room = o.room in
    let four : at + 4 ≤ length s = omega arith in
    let eight : at + 8 ≤ length s = omega arith in
    rw (le-leb _ _ four, o.header, ne_eqb _ _ z, le-leb _ _ eight, o.count, lt-ltb _ _ l)

-- a null pointer to the array
null-array : (s : List ℕ) (at : ℕ) (a : Array) (rest : List ℕ) → (a.header ≡ 0 → ⊥) → length a.extents ≤ 32 → a.pointer ≡ 0 → (length a.extents ≡ 0 → ⊥)
    → Own s at a rest → extensions_answer s at ≡ 14
unfolding extensions_answer array_answer front_answer order
null-array s at a rest z l y n o =
    let room = o.room in
    let four : at + 4 ≤ length s = omega arith in
    let eight : at + 8 ≤ length s = omega arith in
    let twelve : at + 12 ≤ length s = omega arith in
    let p : array_at s at ≡ 0 = o.pointer ∙ y in
    rw (le-leb _ _ four, o.header, ne_eqb _ _ z, le-leb _ _ eight, o.count, le-ltb _ _ l, le-leb _ _ twelve, o.reserved, le-leb _ _ room, p, ne_eqb _ _ n)

-- a null pointer in the array
null-within : (s : List ℕ) (at : ℕ) (a : Array) (rest : List ℕ) → (a.header ≡ 0 → ⊥) → length a.extents ≤ 32 → (a.pointer ≡ 0 → ⊥) → AllNarrow a.extents
    → extents_writable a.extents ≡ false → Own s at a (pointed_bytes a.extents ++ rest) → extensions_answer s at ≡ 14
unfolding extensions_answer array_answer front_answer pointed_answer counted_answer pointed_bytes order
null-within s at a rest z l y narrow w o =
    let es = a.extents in
    let n = length es in
    let room = o.room in
    let four : at + 4 ≤ length s = omega arith in
    let eight : at + 8 ≤ length s = omega arith in
    let twelve : at + 12 ≤ length s = omega arith in
    let f : drop (at + 16) s ≡ encode 4 (pairs n) ++ (pointers_bytes es ++ (zeros (4 * (pairs n - n)) ++ (extents_bytes es ++ rest))) = o.next ∙ simp append_assoc in
    let q = stands s (at + 16) (encode 4 (pairs n)) _ 4 (length-encode 4 (pairs n)) room f in
    let fit : pairs n < 256 ^ 4 = omega arith in
    let max : field s (at + 16) 4 ≡ pairs n = field-as s (at + 16) 4 (pairs n) q.here q.room fit in
    let ps = null-pointer s (at + 16 + 4) es _ q.room narrow w q.next in
    let some : array_at s at ≡ 0 → ⊥ = λ e. y (sym o.pointer ∙ e) in
    rw (le-leb _ _ four, o.header, ne_eqb _ _ z, le-leb _ _ eight, o.count, le-ltb _ _ l, le-leb _ _ twelve, o.reserved)
    (rw (le-leb _ _ room, ne_eqb _ _ some, le-leb _ _ q.room, max, eq-eqb (pairs n) (pairs n) refl, ps))

-- what cannot be written
broken : (s : List ℕ) (at : ℕ) (a : Array) (rest : List ℕ) → at ≤ length s → Fits a → AllNarrow a.extents → length a.extents < 2 ^ 32
    → (a.header ≡ 0 → ⊥) → drop at s ≡ array_bytes a ++ rest → writable a ≡ false → extensions_answer s at ≡ 14
unfolding array_bytes writable extents_writable
broken s at a rest h f narrow few z d w =
    let bad = rw (ne_eqb _ _ z) at w in
    by_bool (eqb a.pointer 0)
    (λ t.
    let y = eqb-true _ _ t in
    let g : drop at s ≡ encode 4 a.header ++ (encode 4 (length a.extents) ++ (encode 4 0 ++ (encode 4 a.pointer ++ rest))) = d ∙ (rw (ne_eqb _ _ z, t) (simp (append_assoc, append-nil))) in
    let o = own s at a rest h f few g in
    by_bool (leb (length a.extents) 32)
    (λ l. null-array s at a rest z (leb-true _ _ l) y (λ n. true-false (none_writable a.extents n (rw (l, t, n) at bad))) o)
    (λ l. many s at a rest z (leb-false _ _ l) o))
    (λ t.
    let y = eqb-false _ _ t in
    let o = own s at a (pointed_bytes a.extents ++ rest) h f few (d ∙ (rw (ne_eqb _ _ z, t) (simp append_assoc))) in
    by_bool (leb (length a.extents) 32)
    (λ l. null-within s at a rest z (leb-true _ _ l) y narrow (rw (l, t) at bad) o)
    (λ l. many s at a _ z (leb-false _ _ l) o))
  where
    none_writable : (es : List Extent) → length es ≡ 0 → extents_writable es ≡ false → true ≡ false
    none_writable [] e x = x
    none_writable (x ∷ es) e y = absurd (omega arith)

pub writer-as-reader : WriterAsReader
writer-as-reader s at a rest h f narrow few z d =
    by_bool (writable a)
    (λ w. rw w (read_back s at a rest h f w d).answer)
    (λ w. rw w (broken s at a rest h f narrow few z d w))
