-- `locate`: the context's refusals, then the place.
use mathlib.Core.Path.{◌≡◌, sym, ap, ◌∙◌}
use borrow.Author.Tests.{eq-eqb, ne_eqb}
use borrow.Author.Rules.{rules}
use Rattle.std.specs.Prelude.{Err}
use Rattle.kinds.proofs.Answering.{refusal-some}
use Rattle.bindings.specs.Bindings.{refusal}
use Rattle.contexts.specs.Contexts.{property_place}
use Rattle.contexts.proofs.Properties.{context-accepted}
use Rattle.contexts.proofs.locate.Goals as goal

pub returns-in_err-context_answer : goal.returns-in_err-context_answer
unfolding property_place
returns-in_err-context_answer c =
    let n = c.in_err-context_answer.ensures in
    let r : c.from_residual.result ≡ Err c.in_err-context_answer.field-0.0 = search rules in
    rw r (rw (ne_eqb _ _ (refusal-some _ n)) (ap refusal n))

pub find-requires : goal.find-requires
find-requires c =
    let a = context-accepted _ (sym c.in_ok-context_answer.ensures) in
    (a.0, rw c.read_u32.ensures a.1)

pub returns : goal.returns
unfolding property_place
returns c =
    rw (eq-eqb _ _ (sym c.in_ok-context_answer.ensures)) (rw c.read_u32.ensures at c.find.ensures)
