-- `Walk::binding`: the binding takes no more words than are left.
use mathlib.Core.Path.{◌≡◌, refl}
use borrow.Author.Rules.{rules}
use Rattle.std.specs.Prelude.{Err}
use Rattle.kinds.proofs.Answering.{refusal-some}
use Rattle.cursors.proofs.PartWalk.{step-refused, step-forward, step_fits, step-done}
use Rattle.cursors.proofs.Walk.binding.Goals as goal

pub returns-in_err-place : goal.returns-in_err-place
returns-in_err-place c =
    let r : c.from_residual.result ≡ Err c.in_err-place.field-0.0 = search rules in
    rw r (step-refused _ _ _ _ _ c.in_err-place.ensures _ (refusal-some _ refl) refl)

pub overflow_sub-words : goal.overflow_sub-words
overflow_sub-words c = step-forward _ _ _ _ _ c.in_ok-place.ensures refl

pub overflow_sub-result : goal.overflow_sub-result
overflow_sub-result c = step_fits _ _ _ _ _ c.in_ok-place.ensures refl

pub returns : goal.returns
returns c = step-done _ _ _ _ _ c.in_ok-place.ensures refl
