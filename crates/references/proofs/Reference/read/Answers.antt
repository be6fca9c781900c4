-- `Reference::read`: a refusal, or the fields.
use mathlib.Core.Path.{◌≡◌, sym, ◌∙◌}
use borrow.Author.Tests.{eq-eqb, ne_eqb}
use borrow.Author.Rules.{rules}
use Rattle.std.specs.Prelude.{Err}
use Rattle.kinds.proofs.Answering.{refusal-some}
use Rattle.references.specs.References.{no_reference, read_reference}
use Rattle.references.proofs.Reference.read.Goals as goal

pub returns-in_err-reference_answer : goal.returns-in_err-reference_answer
unfolding read_reference
returns-in_err-reference_answer c =
    let number = c.in_err-reference_answer.ensures in
    let r : c.from_residual.result ≡ Err c.in_err-reference_answer.field-0.0 = search rules in
    rw r (simp (ne_eqb _ _ (refusal-some _ number)) (λ u. record { answer = number u; reference = no_reference }))

pub returns : goal.returns
unfolding read_reference
returns c =
    simp (eq-eqb _ _ (sym c.in_ok-reference_answer.ensures)) (λ u. record { answer = 0; reference = c.fields-reference.ensures u })
