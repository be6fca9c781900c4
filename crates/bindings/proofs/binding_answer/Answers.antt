-- `bindings::binding_answer`: a field of the place.
use mathlib.Core.Path.{◌≡◌, ap, ◌∙◌}
use borrow.Author.Rules.{rules}
use Rattle.kinds.specs.Answers.{answer_number, refusal_number}
use Rattle.bindings.specs.declared.Place.{Place}
use Rattle.bindings.proofs.binding_answer.Goals as goal

pub returns : goal.returns
returns c = ap (λ (x : Place). x.answer) c.in_ok-locate.ensures

pub returns-in_err-locate : goal.returns-in_err-locate
returns-in_err-locate c =
    let e = ap (λ (x : Place). x.answer) c.in_err-locate.ensures in
    let n : answer_number c.from_residual.result ≡ refusal_number c.in_err-locate.field-0.0 = search rules in
    n ∙ e
