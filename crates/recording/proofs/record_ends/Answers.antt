-- `recording::record_ends`: each end from the one before.
use mathlib.Core.Path.{ap, ◌∙◌}
use Rattle.recording.specs.Places.{section_end, ends_from}
use Rattle.recording.proofs.record_ends.Goals as goal

pub returns : goal.returns
unfolding ends_from
returns c =
    let s = c.args.s.now in
    let e1 = c.section_end-call.ensures in
    let e2 = c.section_end-first.ensures ∙ ap (section_end s) e1 in
    let e3 = c.section_end-second.ensures ∙ ap (section_end s) e2 in
    let e4 = c.section_end-answer.ensures ∙ ap (section_end s) e3 in
    let e5 = c.section_end-shown.ensures ∙ ap (section_end s) e4 in
    λ u. record { call = e1 u; first = e2 u; second = e3 u; answer = e4 u; shown = e5 u }
