-- `call_ping::ping_set_number`: the test of set 0.
use Rattle.std.proofs.Common.{eq-eqb, ne_eqb}
use Rattle.call_ping.proofs.ping_set_number.Goals as goal

pub returns-then-set-eq0 : goal.returns-then-set-eq0
returns-then-set-eq0 c = rw (eq-eqb _ 0 c.if-set-eq0.true) c.next_set.ensures

pub returns : goal.returns
returns c = rw (ne_eqb _ 0 c.if-set-eq0.false)
