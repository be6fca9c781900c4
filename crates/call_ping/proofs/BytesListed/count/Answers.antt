-- `Bytes::count`: eight bytes for each.
use Rattle.call_ping.proofs.Memberships.{bytes-count}
use Rattle.call_ping.proofs.BytesListed.count.Goals as goal

pub returns : goal.returns
returns c = bytes-count _
