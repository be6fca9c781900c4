-- `Fragments::finish`: a refusal, or the fields and the bytes that were kept.
use mathlib.Core.Path.{◌≡◌, sym}
use lib.Seq.{length-take-le}
use borrow.Author.Rules.{rules}
use Rattle.std.specs.Prelude.{Err}
use Rattle.kinds.proofs.Answering.{refusal-eqb}
use Rattle.fragments.specs.Fragments.{finished, final_after}
use Rattle.fragments.proofs.Ending.{end-room}
use Rattle.fragments.proofs.Fragments.finish.Goals as goal

pub returns-in_err-end_answer : goal.returns-in_err-end_answer
unfolding finished final_after
returns-in_err-end_answer c =
    let e = c.in_err-end_answer.ensures in
    let r : c.from_residual.result ≡ Err c.in_err-end_answer.field-0.0 = search rules in
    rw r (rw (← e, refusal-eqb c.in_err-end_answer.field-0.0), rw (← e, refusal-eqb c.in_err-end_answer.field-0.0))

pub slice_bounds-copy-end : goal.slice_bounds-copy-end
slice_bounds-copy-end c = sym (length-take-le _ _ (end-room _ _ _ (sym c.in_ok-end_answer.ensures)))

pub returns : goal.returns
unfolding finished final_after
returns c =
    let e = sym c.in_ok-end_answer.ensures in
    (rw (e, c.fields.ensures), rw e c.copy.ensures)
