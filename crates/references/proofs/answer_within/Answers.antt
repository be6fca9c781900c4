-- `answer_within`: the layout's answer, then 22.
use mathlib.Core.Path.{◌≡◌, sym, ◌∙◌}
use Rattle.kinds.specs.Refusals.{order}
use borrow.Author.Rules.{rules}
use Rattle.std.specs.Prelude.{Err}
use Rattle.kinds.proofs.Answering.{refusal-some}
use Rattle.kinds.proofs.Refusing.{ne-differ, eq-differ}
use Rattle.references.proofs.answer_within.Goals as goal

pub returns-in_err-layout : goal.returns-in_err-layout
unfolding order
returns-in_err-layout c =
    let n = c.in_err-layout.ensures in
    let r : c.from_residual.result ≡ Err c.in_err-layout.field-0.0 = search rules in
    rw r (simp (ne-differ _ _ (refusal-some _ n)) n)

pub returns-then-names_nil : goal.returns-then-names_nil
unfolding order
returns-then-names_nil c = simp (eq-differ _ _ (sym c.in_ok-layout.ensures), sym c.names_nil.ensures ∙ c.if-names_nil.true)

pub returns : goal.returns
unfolding order
returns c = simp (eq-differ _ _ (sym c.in_ok-layout.ensures), sym c.names_nil.ensures ∙ c.if-names_nil.false)
