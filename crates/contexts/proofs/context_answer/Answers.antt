use mathlib.Core.Path.{◌≡◌, sym, ◌∙◌}
use native.Mathlib.Omega.{arith}
use Rattle.kinds.specs.Refusals.{order}
use borrow.Author.Rules.{rules}
use Rattle.std.specs.Prelude.{Err}
use Rattle.kinds.proofs.Answering.{refusal-some}
use Rattle.kinds.proofs.Refusing.{ne-differ, eq-differ, last_row}
use Rattle.fields.proofs.Fields.{take_rest}
use Rattle.contexts.specs.Contexts.{context_answer}
use Rattle.contexts.proofs.Properties.{headed}
use Rattle.contexts.proofs.context_answer.Goals as goal

pub returns-in_err-head_answer : goal.returns-in_err-head_answer
unfolding context_answer order
returns-in_err-head_answer c =
    let head = c.in_err-head_answer.ensures in
    let r : c.from_residual.result ≡ Err c.in_err-head_answer.field-0.0 = search rules in
    rw r (simp (ne-differ _ _ (refusal-some _ head)) head)

pub returns : goal.returns
unfolding context_answer order
returns c =
    let s = c.args.s.now in
    let e = rw (c.read_u32.ensures, take_rest s 48) at c.properties_answer.ensures in
    simp (eq-differ _ _ (sym c.in_ok-head_answer.ensures)) (e ∙ sym (last_row _))

pub slice_bounds-properties_answer-count : goal.slice_bounds-properties_answer-count
slice_bounds-properties_answer-count c = let h = (headed _ (sym c.in_ok-head_answer.ensures)).fixed in omega arith

pub slice_bounds-properties_answer-start : goal.slice_bounds-properties_answer-start
slice_bounds-properties_answer-start c = let h = (headed _ (sym c.in_ok-head_answer.ensures)).fixed in omega arith
