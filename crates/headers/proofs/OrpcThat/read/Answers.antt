-- `OrpcThat::read`: a refusal, or the fields.
use mathlib.Core.Path.{◌≡◌, sym, ap, ◌∙◌}
use borrow.Author.Rules.{rules}
use borrow.Author.Tests.{eq-eqb, ne_eqb}
use Rattle.std.specs.Prelude.{Err}
use Rattle.kinds.specs.Answers.{refusal_number}
use Rattle.kinds.proofs.Answering.{refusal-some}
use Rattle.headers.specs.Headers.{that_answer, read_that, that_at, no_that}
use Rattle.headers.proofs.HeaderAnswers.{that-number, that-end}
use Rattle.headers.proofs.OrpcThat.read.Goals as goal

pub returns-in_err-length : goal.returns-in_err-length
unfolding read_that
returns-in_err-length c =
    let e : refusal_number c.in_err-length.field-0.0 ≡ that_answer c.args.s.now = that-number _ _ c.in_err-length.ensures in
    let r : c.from_residual.result ≡ Err c.in_err-length.field-0.0 = search rules in
    rw (r, ne_eqb _ _ (refusal-some _ e)) (ap no_that e)

pub returns : goal.returns
unfolding read_that that_at
returns c =
    let done : that_answer c.args.s.now ≡ 0 = sym (that-number _ _ c.in_ok-length.ensures) in
    let header = c.new.ensures ∙ (λ u. record { flags = c.read_u32.ensures u }) in
    let end = that-end _ _ c.in_ok-length.ensures (done) in
    simp (eq-eqb _ _ (done)) (λ u. record { answer = 0; header = header u; extensions = c.stated.ensures u; length = end u })

pub stated-requires : goal.stated-requires
stated-requires c = sym (that-number _ _ c.in_ok-length.ensures)
