-- `call_ping::hear_row`: the test of the row's bit.
use Rattle.std.proofs.Common.{sym, refl, ◌∙◌}
use Rattle.call_ping.proofs.hear_row.Goals as goal

pub returns-then-has : goal.returns-then-has
returns-then-has c s =
    rw (sym c.has.ensures ∙ c.if-has.true) (rw c.clock-clock.ensures at (c.set_heard.ensures s))

pub returns-else-has : goal.returns-else-has
returns-else-has c s = rw (sym c.has.ensures ∙ c.if-has.false) refl
