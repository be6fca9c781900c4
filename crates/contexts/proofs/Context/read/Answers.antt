-- `Context::read`: a refusal, or the fields.
use mathlib.Core.Path.{◌≡◌, refl, sym}
use borrow.Author.Tests.{eq-eqb, ne_eqb}
use borrow.Author.Rules.{rules}
use Rattle.std.specs.Prelude.{Err}
use Rattle.kinds.proofs.Answering.{refusal-some}
use Rattle.contexts.specs.Contexts.{no_context, read_context}
use Rattle.contexts.proofs.Context.read.Goals as goal

pub returns-in_err-context_answer : goal.returns-in_err-context_answer
unfolding read_context
returns-in_err-context_answer c =
    let number = c.in_err-context_answer.ensures in
    let r : c.from_residual.result ≡ Err c.in_err-context_answer.field-0.0 = search rules in
    rw r (simp (ne_eqb _ _ (refusal-some _ number)) (λ u. record { answer = number u; context = no_context }))

pub returns : goal.returns
unfolding read_context
returns c =
    simp (eq-eqb _ _ (sym c.in_ok-context_answer.ensures)) (λ u. record { answer = 0; context = c.fields.ensures u })
