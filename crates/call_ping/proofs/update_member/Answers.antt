-- `call_ping::update_member`: the row that is found for the OID, where it is live.
use Rattle.call_ping.proofs.Memberships.{one-dead, one-gone, one-live}
use Rattle.call_ping.proofs.update_member.Goals as goal

pub returns-then-row-object_count : goal.returns-then-row-object_count
returns-then-row-object_count = (λ c s. search one-live)

pub returns-then-member : goal.returns-then-member
returns-then-member = (λ c s. search one-dead)

pub returns-else-member : goal.returns-else-member
returns-else-member = (λ c s. search one-gone)
