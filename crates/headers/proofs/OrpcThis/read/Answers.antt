-- `OrpcThis::read`: a refusal, or the fields.
use mathlib.Core.Path.{◌≡◌, sym, ap, ◌∙◌}
use borrow.Author.Rules.{rules}
use borrow.Author.Tests.{eq-eqb, ne_eqb}
use Rattle.std.specs.Prelude.{Err}
use Rattle.kinds.specs.Answers.{refusal_number}
use Rattle.kinds.proofs.Answering.{refusal-some}
use Rattle.headers.specs.Headers.{this_answer, read_this, this_at, no_this}
use Rattle.headers.proofs.HeaderAnswers.{this-number, this-end}
use Rattle.headers.proofs.ThisTrip.{version}
use Rattle.headers.proofs.OrpcThis.read.Goals as goal

pub returns-in_err-length : goal.returns-in_err-length
unfolding read_this
returns-in_err-length c =
    let e : refusal_number c.in_err-length.field-0.0 ≡ this_answer c.args.s.now = this-number _ _ c.in_err-length.ensures in
    let r : c.from_residual.result ≡ Err c.in_err-length.field-0.0 = search rules in
    rw (r, ne_eqb _ _ (refusal-some _ e)) (ap no_this e)

pub returns : goal.returns
unfolding read_this this_at
returns c =
    let done : this_answer c.args.s.now ≡ 0 = sym (this-number _ _ c.in_ok-length.ensures) in
    let g = c.read_guid.ensures in
    let header = c.new.ensures ∙ (λ u. record { minor = c.read_u16.ensures u; flags = c.read_u32.ensures u; causality = g u }) in
    let end = this-end _ _ c.in_ok-length.ensures (done) in
    simp (eq-eqb _ _ (done)) (λ u. record { answer = 0; header = header u; extensions = c.stated.ensures u; length = end u })

pub stated-requires : goal.stated-requires
stated-requires c = (version _ (sym (this-number _ _ c.in_ok-length.ensures))).1
