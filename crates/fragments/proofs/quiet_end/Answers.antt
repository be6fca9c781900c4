-- `fragments::quiet_end`.
use borrow.Author.Tests.{lt-ltb, le-ltb}
use Rattle.fragments.specs.Rest.{quiet_end}
use Rattle.fragments.proofs.quiet_end.Goals as goal

pub returns-then-seen-lt24 : goal.returns-then-seen-lt24
unfolding quiet_end
returns-then-seen-lt24 c = rw (lt-ltb _ _ c.if-seen-lt24.true)

pub returns : goal.returns
unfolding quiet_end
returns c = rw (le-ltb _ _ c.if-seen-lt24.false, c.fixed_size.ensures, c.form_of.ensures)
