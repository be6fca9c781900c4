-- `fragments::is_nil`: a custom reference has no block.
use borrow.Author.Tests.{eq-eqb, ne_eqb}
use Rattle.fragments.proofs.is_nil.Goals as goal

pub returns-then-r-eq-CUSTOM : goal.returns-then-r-eq-CUSTOM
returns-then-r-eq-CUSTOM c = rw (eq-eqb _ _ c.if-r-eq-CUSTOM.true)

pub returns : goal.returns
returns c = rw (ne_eqb _ _ c.if-r-eq-CUSTOM.false) c.has_nil.ensures
