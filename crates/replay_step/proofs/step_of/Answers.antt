-- `replay_step::step_of`: what is answered, compared.
use mathlib.Core.Path.{ap, ◌∙◌}
use mathlib.Core.Bool.{Bool, ◌&&◌}
use lib.ListN.{length}
use lib.Dec.{eqb}
use Rattle.replay_step.proofs.step_of.Goals as goal

pub returns : goal.returns
returns c =
    let a = c.args in
    let e = c.both.ensures ∙ ap (λ (x : Bool). x && eqb (length a.shown.now) 0) c.answers-same.ensures in
    λ u. record { agrees = e u; accepted = eqb a.number 0 }
