-- The layout of an array that can be written is accepted, and read as that array.
use Prim.Native.Nat.{ℕ, ◌+◌, ◌-◌, ◌*◌, ◌^◌, ◌<◌, ◌≤◌}
use mathlib.Core.Path.{◌≡◌, refl, sym, ap, ◌∙◌}
use mathlib.Core.Bool.{Bool, true, false, not, ◌&&◌, ◌||◌}
use mathlib.Core.List.{List, [], ◌∷◌, ◌++◌, append_assoc, append-nil}
use native.Mathlib.Omega.{arith}
use borrow.Author.Tests.{eq-eqb, ne_eqb, eqb-true, eqb-false, leb-true, le-leb, le-ltb}
use lib.Dec.{eqb}
use lib.ListN.{length, take, drop, length-append, length-drop, length-replicate}
use lib.Seq.{drop-drop, take-append_seam, drop-append_seam}
use Rattle.kinds.specs.Refusals.{order}
use Rattle.kinds.proofs.Refusing.{true-false}
use Rattle.fields.specs.Fields.{field, encode, guid_at, guid_bytes, GuidFits, all_zero, longest, rounded, zeros}
use Rattle.fields.proofs.Fields.{length-encode, length-guid, field-as, guid-as, zeros-zero}
use Rattle.extensions.specs.Extensions.{pairs, Extent, Array, extent_bytes, extents_bytes, pointers_bytes, pointed_bytes, array_bytes, padding_answer, pointers_answer}
use Rattle.extensions.specs.Extensions.{size_at, next_at, extent_answer, extents_answer, start_of, extents_at, count_at, array_at, extents_start, counted_answer}
use Rattle.extensions.specs.Extensions.{pointed_answer, front_answer, array_answer, extensions_answer, array_end, extensions_end, extensions_count, extensions_at}
use Rattle.extension_writer.specs.Writing.{extents_writable, writable}
use Rattle.extension_writer.specs.Statements.{AllFit, Fits, ReadAs, ReadBack}
use Rattle.bindings.proofs.ListBytes.{by_bool}
use Rattle.extensions.proofs.ArrayWalk.{both_true}
use Rattle.extension_writer.proofs.Writes.{Entry, entry, length-pointers}

-- ---- bytes that stand at a place, and what follows them

pub record Stands (s : List ℕ) (at : ℕ) (x rest : List ℕ) (w : ℕ) : Type 0 where
  pub room : at + w ≤ length s
  pub here : take w (drop at s) ≡ x
  pub next : drop (at + w) s ≡ rest

pub stands : (s : List ℕ) (at : ℕ) (x rest : List ℕ) (w : ℕ) → length x ≡ w → at ≤ length s → drop at s ≡ x ++ rest → Stands s at x rest w
stands s at x rest w n h e =
    let l = length-drop at s in
    let m = length-append x rest in
    let k = ap length e in
    record {
      room = omega arith;
      here = ap (take w) e ∙ (rw (← n) (take-append_seam x rest));
      next = sym (drop-drop w at s) ∙ ap (drop w) e ∙ (rw (← n) (drop-append_seam x rest));
    }

-- ---- one extension

record ExtentRead (s : List ℕ) (at : ℕ) (e : Extent) (rest : List ℕ) : Type 0 where
  answer : extent_answer s at ≡ 0
  id : guid_at s (at + 4) ≡ e.id
  content : take (size_at s at) (drop (at + 24) s) ≡ e.content
  within : next_at s at ≤ length s
  next : drop (next_at s at) s ≡ rest

eights-fit : (n : ℕ) → n ≤ longest → (n < 256 ^ 4) × (rounded n < 256 ^ 4)
eights-fit n h = (omega arith, omega arith)

extent-read : (s : List ℕ) (at : ℕ) (e : Extent) (rest : List ℕ) → at ≤ length s → Entry e.pointer (length e.content) → GuidFits e.id
    → drop at s ≡ extent_bytes e ++ rest → ExtentRead s at e rest
unfolding extent_bytes extent_answer padding_answer order
extent-read s at e rest h p g d =
    let n = length e.content in
    let fit = eights-fit n p.fit in
    let pad = zeros (rounded n - n) in
    let f : drop at s ≡ encode 4 (rounded n) ++ (guid_bytes e.id ++ (encode 4 n ++ (e.content ++ (pad ++ rest)))) = d ∙ simp append_assoc in
    let a = stands s at (encode 4 (rounded n)) _ 4 (length-encode 4 (rounded n)) h f in
    let b = stands s (at + 4) (guid_bytes e.id) _ 16 (length-guid e.id) a.room a.next in
    let i : at + 4 + 16 ≡ at + 20 = omega arith in
    let c = stands s (at + 20) (encode 4 n) _ 4 (length-encode 4 n) (rw i at b.room) (rw i at b.next) in
    let j : at + 20 + 4 ≡ at + 24 = omega arith in
    let o = stands s (at + 24) e.content _ n refl (rw j at c.room) (rw j at c.next) in
    let q = stands s (at + 24 + n) pad rest (rounded n - n) (length-replicate (rounded n - n) 0) o.room o.next in
    let whole : field s at 4 ≡ rounded n = field-as s at 4 (rounded n) a.here a.room fit.1 in
    let size : size_at s at ≡ n = field-as s (at + 20) 4 n c.here c.room fit.0 in
    let end : at + 24 + n + (rounded n - n) ≡ at + 24 + rounded n = omega arith in
    let fixed : at + 24 ≤ length s = rw j at c.room in
    let clear : all_zero (take (rounded n - n) (drop (at + 24 + n) s)) ≡ true = rw q.here (zeros-zero (rounded n - n)) in
    record {
      answer = rw (size, whole, eq-eqb (rounded n) (rounded n) refl, le-leb _ _ fixed, le-leb _ _ o.room, le-leb _ _ q.room, clear);
      id = guid-as s (at + 4) e.id b.here b.room g;
      content = rw size o.here;
      within = rw size (rw end at q.room);
      next = rw size (rw end at q.next);
    }

-- ---- all of them

record ExtentsRead (s : List ℕ) (p at : ℕ) (es : List Extent) (rest : List ℕ) : Type 0 where
  pointers : pointers_answer s p (length es) ≡ 0
  answer : extents_answer s at (length es) ≡ 0
  same : extents_at s p at (length es) ≡ es
  within : start_of s at (length es) ≤ length s
  next : drop (start_of s at (length es)) s ≡ rest

extents-read : (s : List ℕ) (p at : ℕ) (es : List Extent) (rest rest' : List ℕ) → p ≤ length s → at ≤ length s → extents_writable es ≡ true → AllFit es
    → drop p s ≡ pointers_bytes es ++ rest' → drop at s ≡ extents_bytes es ++ rest → ExtentsRead s p at es rest
unfolding extents_writable pointers_bytes extents_bytes pointers_answer extents_answer extents_at start_of order
extents-read s p at [] rest rest' hp h w AllFit.none dp d = record { pointers = refl; answer = refl; same = refl; within = h; next = d }
extents-read s p at (e ∷ es) rest rest' hp h w (AllFit.more l m gs) dp d =
    let both = both_true _ _ w in
    let pr = entry _ _ both.0 in
    let q = stands s p (encode 4 e.pointer) (pointers_bytes es ++ rest') 4 (length-encode 4 e.pointer) hp (dp ∙ append_assoc (encode 4 e.pointer) (pointers_bytes es) rest') in
    let r = extent-read s at e (extents_bytes es ++ rest) h pr (record { low = l; high = m }) (d ∙ append_assoc (extent_bytes e) (extents_bytes es) rest) in
    let t = extents-read s (p + 4) (next_at s at) es rest rest' q.room r.within both.1 gs q.next r.next in
    let pointer : field s p 4 ≡ e.pointer = field-as s p 4 e.pointer q.here q.room pr.narrow in
    record {
      pointers = rw (le-leb _ _ q.room, pointer, ne_eqb _ _ pr.some, t.pointers);
      answer = rw (r.answer, t.answer);
      same = rw (pointer, r.id, r.content, t.same);
      within = t.within;
      next = t.next;
    }

-- ---- the array

pub empty : (es : List Extent) → length es ≡ 0 → es ≡ []
empty [] e = refl
empty (x ∷ es) e = absurd (omega arith)

pub or_left : (a b : Bool) → (a || b) ≡ true → a ≡ false → b ≡ true
or_left true b e f = absurd (true-false f)
or_left false b e f = e

few : (n : ℕ) → n ≤ 32 → (n < 256 ^ 4) × (pairs n < 256 ^ 4)
few n h = (omega arith, omega arith)

-- no array
null-read : (s : List ℕ) (at : ℕ) (a : Array) (rest : List ℕ) → at ≤ length s → drop at s ≡ array_bytes a ++ rest → writable a ≡ true → a.header ≡ 0 → ReadAs s at a rest
unfolding array_bytes writable extensions_answer extensions_at extensions_end extensions_count extents_at order
null-read s at a rest h d w z =
    let b = both_true _ _ (rw z at w) in
    let p = eqb-true _ _ b.0 in
    let n = empty a.extents (eqb-true _ _ b.1) in
    let f : drop at s ≡ encode 4 0 ++ rest = d ∙ (rw (z, append-nil (encode 4 0))) in
    let q = stands s at (encode 4 0) rest 4 (length-encode 4 0) h f in
    let x : field s at 4 ≡ 0 = field-as s at 4 0 q.here q.room (omega arith) in
    record {
      answer = rw (le-leb _ _ q.room, x);
      same = rw x (λ i. record { header = sym z i; pointer = sym p i; extents = sym n i });
      next = rw x q.next;
    }

-- an array's own fields
record Own (s : List ℕ) (at : ℕ) (a : Array) (rest : List ℕ) : Type 0 where
  header : field s at 4 ≡ a.header
  count : count_at s at ≡ length a.extents
  pointer : array_at s at ≡ a.pointer
  front : front_answer s at ≡ 0
  room : at + 16 ≤ length s
  next : drop (at + 16) s ≡ rest

own_read : (s : List ℕ) (at : ℕ) (a : Array) (rest : List ℕ) → at ≤ length s → Fits a → length a.extents ≤ 32 → (a.pointer ≡ 0 → length a.extents ≡ 0)
    → drop at s ≡ encode 4 a.header ++ (encode 4 (length a.extents) ++ (encode 4 0 ++ (encode 4 a.pointer ++ rest))) → Own s at a rest
unfolding front_answer order
own_read s at a rest h f l y d =
    let n = length a.extents in
    let p = stands s at (encode 4 a.header) _ 4 (length-encode 4 a.header) h d in
    let c = stands s (at + 4) (encode 4 n) _ 4 (length-encode 4 n) p.room p.next in
    let i : at + 4 + 4 ≡ at + 8 = omega arith in
    let r = stands s (at + 8) (encode 4 0) _ 4 (length-encode 4 0) (rw i at c.room) (rw i at c.next) in
    let j : at + 8 + 4 ≡ at + 12 = omega arith in
    let q = stands s (at + 12) (encode 4 a.pointer) rest 4 (length-encode 4 a.pointer) (rw j at r.room) (rw j at r.next) in
    let k : at + 12 + 4 ≡ at + 16 = omega arith in
    let room : at + 16 ≤ length s = rw k at q.room in
    let eight : at + 8 ≤ length s = omega arith in
    let twelve : at + 12 ≤ length s = omega arith in
    let count : count_at s at ≡ n = field-as s (at + 4) 4 n c.here c.room (few n l).0 in
    let reserved : field s (at + 8) 4 ≡ 0 = field-as s (at + 8) 4 0 r.here r.room (omega arith) in
    let pointer : array_at s at ≡ a.pointer = field-as s (at + 12) 4 a.pointer q.here q.room f.pointer in
    let some : (eqb a.pointer 0 && not (eqb n 0)) ≡ false =
    by_bool (eqb a.pointer 0) (λ e. rw (e, y (eqb-true _ _ e))) (λ e. rw e) in
    record {
      header = field-as s at 4 a.header p.here p.room f.header;
      count = count;
      pointer = pointer;
      front = rw (le-leb _ _ eight, count, le-ltb 32 n l, le-leb _ _ twelve, reserved, le-leb _ _ room, pointer, some);
      room = room;
      next = rw k at q.next;
    }

-- what its pointer points to
record Pointed (s : List ℕ) (at : ℕ) (es : List Extent) (rest : List ℕ) : Type 0 where
  answer : pointed_answer s at ≡ 0
  same : extents_at s (at + 20) (extents_start s at) (count_at s at) ≡ es
  next : drop (start_of s (extents_start s at) (count_at s at)) s ≡ rest

pointed-read : (s : List ℕ) (at : ℕ) (es : List Extent) (rest : List ℕ) → at + 16 ≤ length s → count_at s at ≡ length es → length es ≤ 32 → extents_writable es ≡ true → AllFit es
    → drop (at + 16) s ≡ pointed_bytes es ++ rest → Pointed s at es rest
unfolding pointed_bytes pointed_answer counted_answer padding_answer order
pointed-read s at es rest h c l w g d =
    let n = length es in
    let pad = zeros (4 * (pairs n - n)) in
    let f : drop (at + 16) s ≡ encode 4 (pairs n) ++ (pointers_bytes es ++ (pad ++ (extents_bytes es ++ rest))) = d ∙ simp append_assoc in
    let a = stands s (at + 16) (encode 4 (pairs n)) _ 4 (length-encode 4 (pairs n)) h f in
    let i : at + 16 + 4 ≡ at + 20 = omega arith in
    let b = stands s (at + 16 + 4) (pointers_bytes es) _ (4 * n) (length-pointers es) a.room a.next in
    let q = stands s (at + 16 + 4 + 4 * n) pad (extents_bytes es ++ rest) (4 * (pairs n - n)) (length-replicate (4 * (pairs n - n)) 0) b.room b.next in
    let j : at + 16 + 4 + 4 * n + 4 * (pairs n - n) ≡ at + 20 + 4 * pairs n = omega arith in
    let max : field s (at + 16) 4 ≡ pairs n = field-as s (at + 16) 4 (pairs n) a.here a.room (few n l).1 in
    let clear : all_zero (take (4 * (pairs n - n)) (drop (at + 16 + 4 + 4 * n) s)) ≡ true = rw q.here (zeros-zero (4 * (pairs n - n))) in
    let r = extents-read s (at + 20) (at + 20 + 4 * pairs n) es rest _ (rw i at a.room) (rw j at q.room) w g (rw i at a.next) (rw j at q.next) in
    let ps : pointers_answer s (at + 16 + 4) n ≡ 0 = rw i r.pointers in
    record {
      answer = rw (c, le-leb _ _ a.room, max, eq-eqb (pairs n) (pairs n) refl, ps, le-leb _ _ q.room, clear, r.answer);
      same = rw c r.same;
      next = rw c r.next;
    }

-- an array with no pointers behind it
bare-read : (s : List ℕ) (at : ℕ) (a : Array) (rest : List ℕ) → (a.header ≡ 0 → ⊥) → a.pointer ≡ 0 → a.extents ≡ [] → Own s at a rest → ReadAs s at a rest
unfolding extensions_answer array_answer extensions_at extensions_end array_end extensions_count extents_at order
bare-read s at a rest z y n o =
    let room = o.room in
    let four : at + 4 ≤ length s = omega arith in
    let none : count_at s at ≡ 0 = o.count ∙ ap length n in
    let p : array_at s at ≡ 0 = o.pointer ∙ y in
    record {
      answer = rw (le-leb _ _ four, o.header, ne_eqb _ _ z, o.front, p);
      same = rw (o.header, ne_eqb _ _ z, none, p) (λ i. record { header = a.header; pointer = sym y i; extents = sym n i });
      next = rw (o.header, ne_eqb _ _ z, p) o.next;
    }

-- an array with pointers
full-read : (s : List ℕ) (at : ℕ) (a : Array) (rest next : List ℕ) → (a.header ≡ 0 → ⊥) → (a.pointer ≡ 0 → ⊥) → Own s at a next → Pointed s at a.extents rest → ReadAs s at a rest
unfolding extensions_answer array_answer extensions_at extensions_end array_end extensions_count order
full-read s at a rest next z y o p =
    let room = o.room in
    let four : at + 4 ≤ length s = omega arith in
    let q : array_at s at ≡ 0 → ⊥ = λ e. y (sym o.pointer ∙ e) in
    record {
      answer = rw (le-leb _ _ four, o.header, ne_eqb _ _ z, o.front, ne_eqb _ _ q, p.answer);
      same = rw (o.header, ne_eqb _ _ z, o.pointer, p.same);
      next = rw (o.header, ne_eqb _ _ z, ne_eqb _ _ q) p.next;
    }

some_read : (s : List ℕ) (at : ℕ) (a : Array) (rest : List ℕ) → at ≤ length s → Fits a → drop at s ≡ array_bytes a ++ rest → writable a ≡ true → (a.header ≡ 0 → ⊥) → ReadAs s at a rest
unfolding array_bytes writable
some_read s at a rest h f d w z =
    let b = both_true _ _ (rw (ne_eqb _ _ z) at w) in
    let e = both_true _ _ b.1 in
    let l : length a.extents ≤ 32 = leb-true _ _ b.0 in
    let y : a.pointer ≡ 0 → length a.extents ≡ 0 = λ t. eqb-true _ _ (or_left (not (eqb a.pointer 0)) (eqb (length a.extents) 0) e.0 (rw t)) in
    by_bool (eqb a.pointer 0)
    (λ t.
    let o = own_read s at a rest h f l y (d ∙ (rw (ne_eqb _ _ z, t) (simp (append_assoc, append-nil)))) in
    bare-read s at a rest z (eqb-true _ _ t) (empty a.extents (y (eqb-true _ _ t))) o)
    (λ t.
    let o = own_read s at a (pointed_bytes a.extents ++ rest) h f l y (d ∙ (rw (ne_eqb _ _ z, t) (simp append_assoc))) in
    full-read s at a rest _ z (eqb-false _ _ t) o (pointed-read s at a.extents rest o.room o.count l e.1 f.ids o.next))

pub read_back : ReadBack
read_back s at a rest h f w d =
    by_bool (eqb a.header 0)
    (λ e. null-read s at a rest h d w (eqb-true _ _ e))
    (λ e. some_read s at a rest h f d w (eqb-false _ _ e))
