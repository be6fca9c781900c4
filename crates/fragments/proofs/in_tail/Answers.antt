-- `fragments::in_tail`.
use borrow.Author.Tests.{ne_eqb}
use Rattle.fragments.specs.Fragments.{in_tail}
use Rattle.fragments.proofs.in_tail.Goals as goal

pub returns-then-form-ne0 : goal.returns-then-form-ne0
unfolding in_tail
returns-then-form-ne0 c = rw (ne_eqb _ _ c.if-form-ne0.true, c.fixed_size.ensures)

pub returns-else-form-ne0 : goal.returns-else-form-ne0
unfolding in_tail
returns-else-form-ne0 c = rw c.if-form-ne0.false
