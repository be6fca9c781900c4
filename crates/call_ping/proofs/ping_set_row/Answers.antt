-- `call_ping::ping_set_row`: the test of set 0.
use Rattle.std.proofs.Common.{rules}
use Rattle.call_ping.proofs.SetRows.{made_row, made-set, named_here, named-same}
use Rattle.call_ping.proofs.ping_set_row.Goals as goal

pub append_set-requires : goal.append_set-requires
append_set-requires c = let room = c.requires.1 c.if-set-eq0.true in (search rules, room.0, room.1)

pub returns-then-set-eq0 : goal.returns-then-set-eq0
returns-then-set-eq0 c = (λ s. search made_row, λ s. search made-set)

pub returns : goal.returns
returns c = (λ s. search named_here, λ s. search named-same)
