-- `call_ping::update_set`: the words of the members, then the sequence number.
use Rattle.std.proofs.Common.{rules}
use Rattle.call_ping.proofs.SetRows.{put-row, row-updated}
use Rattle.call_ping.proofs.update_set.Goals as goal

pub set_sequence-requires : goal.set_sequence-requires
set_sequence-requires c = (search rules, search put-row)

pub returns : goal.returns
returns = (λ c s. search row-updated)
