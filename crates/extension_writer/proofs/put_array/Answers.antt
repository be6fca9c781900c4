-- `extensions::put_array`: the fields are a run of writes, as far as the two pointers go.
use Prim.Native.Nat.{ℕ, ◌+◌, ◌/◌, ◌≤◌}
use mathlib.Core.Path.{◌≡◌, refl, ◌∙◌}
use mathlib.Core.List.{List, ◌++◌, append_assoc, append-nil}
use native.Mathlib.Omega.{arith}
use borrow.Author.Tests.{ne_eqb}
use lib.ListN.{length}
use Rattle.fields.specs.Fields.{written, encode}
use Rattle.fields.proofs.Fields.{Run, first_field, then-field, then-bytes}
use Rattle.extensions.specs.Extensions.{pointed_bytes, array_bytes}
use Rattle.extension_writer.specs.Writing.{described, given}
use Rattle.extension_writer.proofs.Writes.{length-described, length-pointed, length-bare, length-full}
use Rattle.extension_writer.proofs.put_array.Goals as goal

pub returns-then-pointer-eq0 : goal.returns-then-pointer-eq0
unfolding array_bytes given
returns-then-pointer-eq0 c = c.write_u32.ensures ∙ (rw (c.if-pointer-eq0.true, append-nil (encode 4 0)))

-- the fields in a row
module _ (b ws : List ℕ) (at pointer array : ℕ) (room : at + 16 ≤ length b) (b₁ b₂ b₃ b₄ : List ℕ) where
  fields-written : b₁ ≡ written b at (encode 4 pointer) → b₂ ≡ written b₁ (at + 4) (encode 4 (length ws / 4)) → b₃ ≡ written b₂ (at + 8) (encode 4 0)
      → b₄ ≡ written b₃ (at + 12) (encode 4 array) → Run b at b₄ (encode 4 pointer ++ encode 4 (length ws / 4) ++ encode 4 0 ++ encode 4 array) 16
  fields-written header count reserved extents =
      let run = then-field 4 (length ws / 4) (first_field 4 pointer header) (omega arith) count in
      then-field 4 array (then-field 4 0 run (omega arith) reserved) (omega arith) extents

pub returns-then-array-eq0 : goal.returns-then-array-eq0
unfolding array_bytes given
returns-then-array-eq0 c =
    let a = c.args in
    let room = c.requires.3 in
    let some = c.if-pointer-eq0.false in
    let size = length-bare a.pointer a.array a.entries.now some c.if-array-eq0.true in
    let run = fields-written _ a.entries.now _ _ _ (omega arith) _ _ _ _ c.write_u32.ensures c.write_u32-2.ensures
    c.write_u32-3.ensures c.write_u32-4.ensures in
    run.holds ∙ (rw (ne_eqb _ _ some, c.if-array-eq0.true, length-described) (simp (append_assoc, append-nil)))

pub put_pointed-requires : goal.put_pointed-requires
put_pointed-requires c =
    let p = c.requires in
    let room = p.3 in
    let size = length-full c.args.pointer c.args.array c.args.entries.now c.if-pointer-eq0.false c.if-array-eq0.false in
    (p.0, p.1, p.2, omega arith)

pub returns : goal.returns
unfolding array_bytes given
returns c =
    let a = c.args in
    let ws = a.entries.now in
    let p = c.requires in
    let room = p.3 in
    let some = c.if-pointer-eq0.false in
    let more = c.if-array-eq0.false in
    let bytes = pointed_bytes (described ws a.contents.now 0 (length ws / 4)) in
    let size = length-full a.pointer a.array ws some more in
    let long = length-pointed 0 0 ws a.contents.now p.1 in
    let run = fields-written _ a.entries.now _ _ _ (omega arith) _ _ _ _ c.write_u32.ensures c.write_u32-2.ensures c.write_u32-3.ensures
    c.write_u32-4.ensures in
    let run2 = then-bytes bytes (length bytes) run refl (omega arith) c.put_pointed.ensures in
    run2.holds ∙ (rw (ne_eqb _ _ some, ne_eqb _ _ more, length-described) (simp append_assoc))
