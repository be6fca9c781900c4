-- `Fragments::step`: each field of the next state, and the waiting buffer.
use mathlib.Core.Path.{◌≡◌, ◌∙◌}
use Rattle.fragments.specs.Fragments.{form_of, in_tail, step, step_in}
use Rattle.fragments.proofs.Fragments.step.Goals as goal

pub returns : goal.returns
unfolding step step_in
returns c =
    let form = c.form_of-form.ensures in
    let self = c.args.self in
    let inner : c.in_tail-inside.result ≡ in_tail (form_of self.head self.seen) self.seen = c.in_tail-inside.ensures ∙ (rw form) in
    let mode = rw form at c.walked-mode.ensures in
    let kept = rw inner at c.next_kept.ensures in
    let over = rw inner at c.next_over.ensures in
    let waiting = rw inner at c.keep.ensures in
    (rw (c.next_head.ensures, kept, c.next_seen.ensures, mode, over), waiting)
