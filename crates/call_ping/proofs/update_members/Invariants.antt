use Rattle.call_ping.proofs.Memberships.{Listing}
use Rattle.call_ping.proofs.update_members.Given as goal

abbrev pub invariant-loop-k : goal.invariant-loop-k
invariant-loop-k g l = Listing l.words l.member (g.L.Listed.oids l.listed) l.initial.members l.k l.members
