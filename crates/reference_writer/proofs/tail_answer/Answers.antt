-- `tail_answer`: a case for each form.
use mathlib.Core.Path.{◌≡◌, sym, ◌∙◌}
use mathlib.Core.Bool.{true, false}
use Rattle.references.specs.References.{is_form}
use Rattle.reference_writer.specs.Writing.{tail_answer}
use Rattle.references.proofs.Forms.{by_form_lem}
use Rattle.reference_writer.proofs.Writable.{tail_none}
use Rattle.reference_writer.proofs.tail_answer.Goals as goal

pub returns-then-not-is_form : goal.returns-then-not-is_form
returns-then-not-is_form c =
    let none : is_form c.args.reference.flags ≡ false = sym c.is_form.ensures ∙ c.if-not-is_form.true in
    sym (tail_none _ _ none)

pub returns-then-f-eq-CUSTOM : goal.returns-then-f-eq-CUSTOM
unfolding tail_answer
returns-then-f-eq-CUSTOM c = rw c.if-f-eq-CUSTOM.true c.object_answer.ensures

pub returns : goal.returns
unfolding tail_answer
returns c =
    let form : is_form c.args.reference.flags ≡ true = sym c.is_form.ensures ∙ c.if-not-is_form.false in
    let list = c.list_answer.ensures in
    by_form_lem _ form (λ e. rw e list) (λ e. rw e list) (λ e. absurd (c.if-f-eq-CUSTOM.false e)) (λ e. rw e list)
