-- `replay_tally::started`: from nothing, or as it was.
use mathlib.Core.Path.{sym, ap, ◌∙◌}
use mathlib.Core.Bool.{Bool}
use Rattle.tally.specs.Tallies.{wrapped}
use Rattle.balance.specs.Sides.{beginning, moved}
use Rattle.replay_tally.proofs.Wrapping.{raised-none, raised-first}
use Rattle.replay_tally.proofs.started.Goals as goal

pub returns-then-accepted : goal.returns-then-accepted
returns-then-accepted c =
    let a = c.args in
    c.counted.ensures
    ∙ ap wrapped (raised-first a.new)
    ∙ ap (λ (b : Bool). wrapped (moved beginning b 0 a.new a.tally)) (sym c.if-accepted.true)

pub returns : goal.returns
returns c =
    let a = c.args in
    c.counted-2.ensures
    ∙ ap wrapped (raised-none a.tally)
    ∙ ap (λ (b : Bool). wrapped (moved beginning b 0 a.new a.tally)) (sym c.if-accepted.false)
