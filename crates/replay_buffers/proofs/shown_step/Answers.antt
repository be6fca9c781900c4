-- `replay_buffers::shown_step`: what is answered and shown, compared.
use mathlib.Core.Path.{◌∙◌}
use mathlib.Core.Bool.{◌&&◌}
use lib.Dec.{eqb}
use Rattle.replay_buffers.proofs.shown_step.Goals as goal

pub returns : goal.returns
returns c =
    let a = c.args in
    let e = c.both.ensures ∙ (λ u. c.answers-numbers.ensures u && c.same_bytes.ensures u) in
    λ u. record { agrees = e u; accepted = eqb a.number 0 }
