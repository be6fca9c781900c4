-- `write_elements`: the element, or nothing.
use mathlib.Core.Path.{sym}
use borrow.Author.Tests.{ne_eqb}
use Rattle.fields.proofs.Fields.{written_none}
use Rattle.reference_writer.specs.Writing.{elements_bytes}
use Rattle.reference_writer.proofs.Writable.{given-parts}
use Rattle.reference_writer.proofs.write_elements.Goals as goal

pub write_element-requires : goal.write_element-requires
write_element-requires c =
    let f = c.if-reference-eq-EXTENDED.true in
    ((given-parts _ _ _ (rw f at c.requires.0)).0, rw f at c.requires.1)

pub returns-then-reference-eq-EXTENDED : goal.returns-then-reference-eq-EXTENDED
unfolding elements_bytes
returns-then-reference-eq-EXTENDED c = rw c.if-reference-eq-EXTENDED.true c.write_element.ensures

pub returns-else-reference-eq-EXTENDED : goal.returns-else-reference-eq-EXTENDED
unfolding elements_bytes
returns-else-reference-eq-EXTENDED c = sym (rw (ne_eqb _ _ c.if-reference-eq-EXTENDED.false) (written_none _ 0))
