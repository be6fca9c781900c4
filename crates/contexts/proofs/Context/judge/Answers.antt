-- `Context::judge`: the rows of `write_context_answer`, in their order.
use mathlib.Core.Path.{◌≡◌, sym, ◌∙◌}
use borrow.Author.Tests.{lt-ltb, le-ltb}
use Rattle.kinds.specs.Refusals.{order}
use borrow.Author.Rules.{rules}
use Rattle.std.specs.Prelude.{Err}
use Rattle.kinds.proofs.Answering.{refusal-some}
use Rattle.kinds.proofs.Refusing.{ne-differ, eq-differ}
use Rattle.contexts.specs.Contexts.{write_context_answer}
use Rattle.contexts.proofs.Context.judge.Goals as goal

pub returns-in_err-properties_answer : goal.returns-in_err-properties_answer
unfolding write_context_answer order
returns-in_err-properties_answer c =
    let number = c.in_err-properties_answer.ensures in
    let r : c.from_residual.result ≡ Err c.in_err-properties_answer.field-0.0 = search rules in
    rw r (simp (ne-differ _ _ (refusal-some _ number)) number)

pub returns-then-n-properties : goal.returns-then-n-properties
unfolding write_context_answer order
returns-then-n-properties c =
    simp (eq-differ _ _ (sym c.in_ok-properties_answer.ensures), lt-ltb _ _ c.if-n-properties.true)

pub returns : goal.returns
unfolding write_context_answer order
returns c =
    simp (eq-differ _ _ (sym c.in_ok-properties_answer.ensures), le-ltb _ _ c.if-n-properties.false)
