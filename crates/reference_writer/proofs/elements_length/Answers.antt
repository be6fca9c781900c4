-- `elements_length`: none, or the fixed fields and the data rounded up.
use Prim.Native.Nat.{◌≤◌}
use native.Mathlib.Omega.{arith}
use borrow.Author.Tests.{eq-eqb, ne_eqb}
use lib.ListN.{length}
use Rattle.fields.specs.Fields.{longest}
use Rattle.reference_writer.proofs.Writable.{given-parts}
use Rattle.reference_writer.proofs.elements_length.Goals as goal

pub returns-then-reference-ne-EXTENDED : goal.returns-then-reference-ne-EXTENDED
returns-then-reference-ne-EXTENDED c = (rw (ne_eqb _ _ c.if-reference-ne-EXTENDED.true), omega arith)

pub overflow_cast-x : goal.overflow_cast-x
overflow_cast-x c =
    let most : length c.args.x.now ≤ longest = (given-parts _ _ _ (rw c.if-reference-ne-EXTENDED.false at c.requires)).0 in
    omega (arith, most)

pub overflow_add-result : goal.overflow_add-result
overflow_add-result c =
    let most : length c.args.x.now ≤ longest = (given-parts _ _ _ (rw c.if-reference-ne-EXTENDED.false at c.requires)).0 in
    let h = most in omega (arith, c.rounded.ensures)

pub returns : goal.returns
returns c =
    let most : length c.args.x.now ≤ longest = (given-parts _ _ _ (rw c.if-reference-ne-EXTENDED.false at c.requires)).0 in
    let h = most in
    let whole = c.rounded.ensures in
    (rw (eq-eqb _ _ c.if-reference-ne-EXTENDED.false) (omega arith), omega arith)
