-- `replay_buffers::listed::written`: by the number.
use borrow.Author.Tests.{ne_eqb}
use Rattle.replay_buffers.proofs.listed.written.Goals as goal

pub returns-else-number-eq0 : goal.returns-else-number-eq0
returns-else-number-eq0 c = rw (ne_eqb c.args.number 0 c.if-number-eq0.false)

pub returns-then-number-eq0 : goal.returns-then-number-eq0
returns-then-number-eq0 c = rw c.if-number-eq0.true
