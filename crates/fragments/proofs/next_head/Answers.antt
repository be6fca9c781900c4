-- `fragments::next_head`.
use borrow.Author.Tests.{lt-ltb, le-ltb}
use Rattle.fragments.specs.Fragments.{step_head}
use Rattle.fragments.proofs.next_head.Goals as goal

pub returns-then-seen-lt84 : goal.returns-then-seen-lt84
unfolding step_head
returns-then-seen-lt84 c = rw (lt-ltb _ _ c.if-seen-lt84.true)

pub returns-else-seen-lt84 : goal.returns-else-seen-lt84
unfolding step_head
returns-else-seen-lt84 c = rw (le-ltb _ _ c.if-seen-lt84.false)
