-- `recording::record_fits`: the test of the form, by the places of the record's sections.
use mathlib.Core.Path.{sym, ◌∙◌}
use native.Mathlib.Omega.{arith}
use Rattle.recording.proofs.Places.{parts, fits-by-places}
use Rattle.recording.proofs.record_fits.Goals as goal

pub overflow_add-from : goal.overflow_add-from
overflow_add-from c =
    let p = parts c.requires in
    let a = p.call.after in
    let b = p.call.inside in
    omega arith

pub slice_bounds-form_fits-start : goal.slice_bounds-form_fits-start
slice_bounds-form_fits-start c =
    let p = parts c.requires in
    let a = p.call.after in
    let b = p.call.inside in
    omega arith

pub returns : goal.returns
returns c =
    c.form_fits.ensures ∙ sym (fits-by-places c.args.s.now c.args.at c.args.e (parts c.requires))

pub overflow_sub-first : goal.overflow_sub-first
overflow_sub-first c = let a = (parts c.requires).first.after in omega arith

pub overflow_sub-first-2 : goal.overflow_sub-first-2
overflow_sub-first-2 c = let a = (parts c.requires).first.after in omega arith

pub overflow_sub-second : goal.overflow_sub-second
overflow_sub-second c = let a = (parts c.requires).second.after in omega arith

pub overflow_sub-second-2 : goal.overflow_sub-second-2
overflow_sub-second-2 c = let a = (parts c.requires).second.after in omega arith

pub overflow_sub-answer : goal.overflow_sub-answer
overflow_sub-answer c = let a = (parts c.requires).answer.after in omega arith

pub overflow_sub-answer-2 : goal.overflow_sub-answer-2
overflow_sub-answer-2 c = let a = (parts c.requires).answer.after in omega arith

pub slice_bounds-form_fits-count : goal.slice_bounds-form_fits-count
slice_bounds-form_fits-count c = let a = (parts c.requires).call.after in omega arith

pub slice_bounds-form_fits-end : goal.slice_bounds-form_fits-end
slice_bounds-form_fits-end c = let b = (parts c.requires).call.inside in omega arith
