-- `call_ping::ping_row`: the members are heard, then the ping time is set.
use Rattle.std.proofs.Common.{rules}
use Rattle.call_ping.proofs.SetRows.{heard-row, row-pinged}
use Rattle.call_ping.proofs.ping_row.Goals as goal

pub set_pinged-requires : goal.set_pinged-requires
set_pinged-requires c = (search rules, search heard-row)

pub returns : goal.returns
returns = (λ c s. search row-pinged)
