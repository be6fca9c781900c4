-- `replay_buffers::looks::resolve_into`: the step into the buffer, and the recorded answer compared.
use mathlib.Core.Path.{refl, sym}
use lib.Seq.{length-take-le}
use Rattle.rules.specs.Rules.{results}
use Rattle.replay_buffers.proofs.Showing.{length-left, length-done}
use Rattle.replay_buffers.proofs.looks.resolve_into.Goals as goal

pub slice_bounds-shown_step-end : goal.slice_bounds-shown_step-end
unfolding results
slice_bounds-shown_step-end c = length-left (rw (← c.from-r.ensures) at c.resolve_step.ensures) _ refl

pub returns : goal.returns
unfolding results
returns c =
    let t = c.requires.0 in
    length-done (rw (← c.from-r.ensures) at c.resolve_step.ensures) _ refl t refl refl refl refl c.requires.1 t.words t.store c.shown_step.ensures

pub slice_bounds-shown_step-end-2 : goal.slice_bounds-shown_step-end-2
unfolding results
slice_bounds-shown_step-end-2 c = sym (length-take-le _ _ (length-left (rw (← c.from-r.ensures) at c.resolve_step.ensures) _ refl))
