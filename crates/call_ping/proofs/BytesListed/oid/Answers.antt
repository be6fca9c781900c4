-- `Bytes::oid`: the field at eight times its number.
use Rattle.std.proofs.Common.{arith, ◌∙◌}
use Rattle.call_ping.proofs.Memberships.{bytes-count, bytes-oid}
use Rattle.call_ping.proofs.BytesListed.oid.Goals as goal

pub overflow_mul-k : goal.overflow_mul-k
overflow_mul-k c = let n = bytes-count c.args.self.now.0.now in let r = c.requires in omega arith

pub returns : goal.returns
returns c = c.read_u64.ensures ∙ bytes-oid _ _ c.requires
