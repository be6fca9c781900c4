-- `call_ping::members_before`: the test of set 0; another set is live.
use Rattle.call_ping.proofs.SetRows.{named-row, before-none, before-row}
use Rattle.call_ping.proofs.members_before.Goals as goal

pub returns-then-set-eq0 : goal.returns-then-set-eq0
returns-then-set-eq0 = (λ c s. search before-none)

pub members-requires : goal.members-requires
members-requires c = search named-row

pub returns : goal.returns
returns = (λ c s. search before-row)
