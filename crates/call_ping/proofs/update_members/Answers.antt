-- `call_ping::update_members`: the OIDs before k.
use Rattle.std.proofs.Common.{arith}
use Rattle.call_ping.proofs.Memberships.{listing-begin, listing-next, listing-dead, listing-end}
use Rattle.call_ping.proofs.update_members.Goals as goal

pub loop-k-init : goal.loop-k-init
loop-k-init g c = listing-begin _ _ _ _ (search) (omega arith, omega arith)

pub returns-in_err-members : goal.returns-in_err-members
returns-in_err-members g c s =
    rw c.from_residual.ensures (listing-dead _ _ _ _ c.requires.1 _ _ c.loop-k.invariant (omega arith) _ c.oid.ensures c.in_err-members.ensures)

pub loop-k-preserved : goal.loop-k-preserved
loop-k-preserved g c = listing-next _ _ _ _ c.requires.1 _ _ c.loop-k.invariant (omega arith) _ c.oid.ensures _ c.in_ok-members.ensures

pub returns : goal.returns
returns g c s = listing-end _ _ _ _ c.requires.1 _ _ c.loop-k.invariant (omega arith)
