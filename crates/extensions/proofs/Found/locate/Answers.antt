-- `Extension::locate`: the refusals, or extension k of an accepted header.
use mathlib.Core.Path.{◌≡◌, sym, ap, ◌∙◌}
use borrow.Author.Tests.{ne_eqb}
use borrow.Author.Rules.{rules}
use Rattle.std.specs.Prelude.{Err}
use Rattle.kinds.specs.Answers.{refusal_number}
use Rattle.kinds.proofs.Answering.{refusal-some}
use Rattle.extensions.specs.Extensions.{extension_at, extensions_answer, no_extension}
use Rattle.extensions.specs.declared.Walked.{Walked}
use Rattle.extensions.proofs.ArrayWalk.{walk-answer}
use Rattle.extensions.proofs.Found.locate.Goals as goal

pub returns-in_err-judge : goal.returns-in_err-judge
unfolding extension_at
returns-in_err-judge c =
    let e : refusal_number c.in_err-judge.field-0.0 ≡ extensions_answer c.args.s.now c.args.at = ap (λ (x : Walked). x.answer) c.in_err-judge.ensures ∙ walk-answer _ _ in
    let r : c.from_residual.result ≡ Err c.in_err-judge.field-0.0 = search rules in
    rw (r, ne_eqb _ _ (refusal-some _ e)) (ap no_extension e)

pub numbered-requires : goal.numbered-requires
numbered-requires c = sym (ap (λ (x : Walked). x.answer) c.in_ok-judge.ensures ∙ walk-answer _ _)
