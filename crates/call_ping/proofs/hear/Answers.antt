-- `call_ping::hear`: the members from row i on are heard.
use Rattle.std.proofs.Common.{arith, rules}
use Rattle.call_ping.proofs.Hearing.{hear-begin, hear-below, hear-again, hear-end}
use Rattle.call_ping.proofs.hear.Goals as goal

pub loop-i-init : goal.loop-i-init
loop-i-init c = (search rules, search hear-begin)

pub hear_row-requires : goal.hear_row-requires
hear_row-requires c = let l = c.loop-i in (l.invariant.0, hear-below _ _ _ _ l.invariant.1 _ (omega arith))

pub loop-i-preserved : goal.loop-i-preserved
loop-i-preserved c = let l = c.loop-i in (search rules, hear-again _ _ _ _ l.invariant.1 _ _ (omega arith) c.hear_row.ensures)

pub returns : goal.returns
returns c = let l = c.loop-i in hear-end _ _ _ _ l.invariant.1 (omega arith) (search)
