-- `element_given`: the element's refusals, or none.
use borrow.Author.Tests.{eq-eqb, ne_eqb}
use Rattle.reference_writer.proofs.element_given.Goals as goal

pub returns-then-reference-ne-EXTENDED : goal.returns-then-reference-ne-EXTENDED
returns-then-reference-ne-EXTENDED c = rw (ne_eqb _ _ c.if-reference-ne-EXTENDED.true)

pub returns : goal.returns
returns c = rw (eq-eqb _ _ c.if-reference-ne-EXTENDED.false) c.given_answer.ensures
