-- `OrpcThis::extension`: the header's refusals, then the extension.
use mathlib.Core.Path.{◌≡◌, sym, ap}
use borrow.Author.Rules.{rules}
use borrow.Author.Tests.{eq-eqb, ne_eqb}
use Rattle.std.specs.Prelude.{Err}
use Rattle.kinds.specs.Answers.{refusal_number}
use Rattle.kinds.proofs.Answering.{refusal-some}
use Rattle.extensions.specs.Extensions.{no_extension}
use Rattle.headers.specs.Headers.{this_answer, this_extension}
use Rattle.headers.proofs.HeaderAnswers.{this-number}
use Rattle.headers.proofs.ThisTrip.{version}
use Rattle.headers.proofs.OrpcThis.extension.Goals as goal

pub returns-in_err-judge : goal.returns-in_err-judge
unfolding this_extension
returns-in_err-judge c =
    let e : refusal_number c.in_err-judge.field-0.0 ≡ this_answer c.args.s.now = this-number _ _ c.in_err-judge.ensures in
    let r : c.from_residual.result ≡ Err c.in_err-judge.field-0.0 = search rules in
    rw (r, ne_eqb _ _ (refusal-some _ e)) (ap no_extension e)

pub returns : goal.returns
unfolding this_extension
returns c = rw (eq-eqb _ _ (sym (this-number _ _ c.in_ok-judge.ensures))) c.numbered.ensures

pub numbered-requires : goal.numbered-requires
numbered-requires c = (version _ (sym (this-number _ _ c.in_ok-judge.ensures))).1
