-- What the reader accepts, the writer does not refuse by 14.
use Prim.Native.Nat.{ℕ, suc, zero, ◌+◌, ◌-◌, ◌^◌, ◌<◌, ◌≤◌}
use mathlib.Core.Path.{◌≡◌, refl}
use mathlib.Core.Bool.{true, not}
use mathlib.Core.List.{List}
use native.Mathlib.Omega.{arith}
use borrow.Author.Tests.{eqb-true, eqb-false, leb-true, leb-false, le-leb, lt-ltb}
use lib.Dec.{eqb, leb}
use lib.ListN.{length, take, drop, length-drop}
use lib.Seq.{drop-cons, length-take-le}
use Rattle.kinds.proofs.Refusing.{passed, passed_on}
use Rattle.fields.specs.Fields.{bytes_number, field, Bytes, longest}
use Rattle.fields.proofs.Fields.{field_in, field_out}
use Rattle.extensions.specs.Extensions.{pointers_answer, size_at, next_at, extents_answer, count_at, array_at, extents_start, extensions_count, extents_at, extensions_at}
use Rattle.extension_writer.specs.Writing.{entry_writable, extents_writable, writable}
use Rattle.extension_writer.specs.Statements.{ReadIsWritable}
use Rattle.bindings.proofs.ListBytes.{by_bool}
use Rattle.extensions.proofs.Back.{count-extents}
use Rattle.extensions.proofs.ArrayWalk.{held, accepted, extents-first}

-- a field of four bytes fits 32 bits
four_bound : (s : List ℕ) (at : ℕ) → Bytes s → field s at 4 < 2 ^ 32
unfolding bytes_number
four_bound s at b =
    by_bool (leb (at + 4) (length s))
    (λ e.
    let l : at + 4 ≤ length s = leb-true _ _ e in
    let p : at < length s = omega arith in
    let q : suc at < length s = omega arith in
    let r : suc (suc at) < length s = omega arith in
    let t : suc (suc (suc at)) < length s = omega arith in
    let x0 = b at in
    let x1 = b (suc at) in
    let x2 = b (suc (suc at)) in
    let x3 = b (suc (suc (suc at))) in
    rw (field_in s at 4 l, drop-cons s at 0 p, drop-cons s (suc at) 0 q, drop-cons s (suc (suc at)) 0 r, drop-cons s (suc (suc (suc at))) 0 t) (omega arith))
    (λ e. let z = field_out s at 4 (leb-false _ _ e) in omega arith)

extents-writable : (s : List ℕ) (p at n : ℕ) → Bytes s → pointers_answer s p n ≡ 0 → extents_answer s at n ≡ 0 → extents_writable (extents_at s p at n) ≡ true
unfolding extents_writable entry_writable extents_at pointers_answer
extents-writable s p at zero b hp h = refl
extents-writable s p at (suc n) b hp h =
    let f = extents-first s at (suc n) (omega arith) h in
    let i : suc n - 1 ≡ n = omega arith in
    let d = held s at f.0 in
    let a = passed (not (leb (p + 4) (length s))) 13 _ (omega arith) hp in
    let c = passed (eqb (field s p 4) 0) 14 _ (omega arith) a.1 in
    let rest = extents-writable s (p + 4) (next_at s at) n b (passed_on _ _ c.1).0 (rw i at f.1) in
    let room = d.room in
    let size : length (take (size_at s at) (drop (at + 24) s)) ≡ size_at s at = length-take-le (size_at s at) (drop (at + 24) s) (rw (length-drop (at + 24) s) (omega arith)) in
    let big = four_bound s at b in
    let same = d.sizes in
    let fit : size_at s at ≤ longest = omega arith in
    let narrow = four_bound s p b in
    rw (c.0, lt-ltb _ _ narrow, size, le-leb _ _ fit, rest)

pub read-is-writable : ReadIsWritable
unfolding writable extensions_at extensions_count extents_writable extents_at
read-is-writable s at b done =
    let a = accepted s at done in
    by_bool (eqb (field s at 4) 0)
    (λ e. rw e)
    (λ e.
    let z = eqb-false _ _ e in
    let f = a.front z in
    let len = count-extents s (at + 20) (extents_start s at) (count_at s at) in
    let most : count_at s at ≤ 32 = f.few in
    by_bool (eqb (array_at s at) 0)
    (λ t.
    let n = f.some (eqb-true _ _ t) in
    rw (e, len, t, n))
    (λ t.
    let y = eqb-false _ _ t in
    let i : at + 16 + 4 ≡ at + 20 = omega arith in
    let ps = rw i at (a.counted z y).pointers in
    rw (e, len, t, le-leb _ _ most) (extents-writable s (at + 20) (extents_start s at) (count_at s at) b ps (a.extents z y))))
