-- `value_answer`: the rows of `value_answer`, in their order; those of the element and of zero identifiers by `value-rows`.
use Prim.Native.Nat.{ℕ}
use mathlib.Core.Path.{◌≡◌, sym, ◌∙◌}
use borrow.Author.Tests.{not-true, not-false}
use mathlib.Core.Bool.{Bool, true, false, cond, not}
use mathlib.Core.List.{List}
use borrow.Author.Rules.{rules}
use Rattle.std.specs.Prelude.{Err}
use Rattle.kinds.proofs.Answering.{refusal-not-0}
use Rattle.kinds.specs.Refusals.{order}
use Rattle.kinds.proofs.Refusing.{ne-differ, eq-differ}
use Rattle.elements.specs.Elements.{given_answer}
use Rattle.references.specs.References.{is_form, is_extended, has_nil, answer_within}
use Rattle.references.specs.declared.Reference.{Reference}
use Rattle.reference_writer.specs.Writing.{tail_answer, value_answer}
use Rattle.reference_writer.proofs.Writable.{own_nil, own_block, value-rows}
use Rattle.reference_writer.proofs.value_answer.Goals as goal

module _ (r : Reference) (tail x : List ℕ) (b : Bool) (judged : b ≡ is_form r.flags) where
  no-form : not b ≡ true → 14 ≡ value_answer r tail x
  unfolding value_answer order
  no-form h = rw (sym judged ∙ not-true _ h)

  module _ (good : not b ≡ false) (n : ℕ) (tailed : n ≡ tail_answer r tail) where
    tail-refused : (n ≡ 0 → ⊥) → n ≡ value_answer r tail x
    unfolding value_answer order
    tail-refused h = rw (sym judged ∙ not-false _ good, ne-differ _ _ (λ z. h (tailed ∙ z))) tailed

    module _ (fits : n ≡ 0) (k : ℕ) (given : k ≡ cond (is_extended r.flags) (given_answer (answer_within 7) r.element x) 0) where
      element-refused : (k ≡ 0 → ⊥) → k ≡ value_answer r tail x
      unfolding order
      element-refused h = rw (value-rows _ _ _ (sym judged ∙ not-false _ good) (sym tailed ∙ fits), ne-differ _ _ (λ z. h (given ∙ z))) given

      module _ (whole : k ≡ 0) where
        -- what is left is the 22 of the block
        rows : value_answer r tail x ≡ cond (own_nil r) 22 0
        unfolding order
        rows = rw (value-rows _ _ _ (sym judged ∙ not-false _ good) (sym tailed ∙ fits), eq-differ _ _ (sym given ∙ whole))

        custom : r.flags ≡ 4 → 0 ≡ value_answer r tail x
        custom h = sym (rows ∙ (rw h))

        module _ (block : r.flags ≡ 4 → ⊥) (o : Bool) (own : o ≡ has_nil r.block) where
          nil-named : o ≡ true → 22 ≡ value_answer r tail x
          nil-named h = sym (rows ∙ (rw (own_block r (sym judged ∙ not-false _ good) block ∙ sym own ∙ h)))

          done : o ≡ false → 0 ≡ value_answer r tail x
          done h = sym (rows ∙ (rw (own_block r (sym judged ∙ not-false _ good) block ∙ sym own ∙ h)))

pub returns-then-not-is_form : goal.returns-then-not-is_form
returns-then-not-is_form c = search no-form

pub returns-in_err-tail_answer : goal.returns-in_err-tail_answer
returns-in_err-tail_answer c =
    let e = c.in_err-tail_answer.ensures in
    let bad = refusal-not-0 c.in_err-tail_answer.field-0.0 in
    let r : c.from_residual.result ≡ Err c.in_err-tail_answer.field-0.0 = search rules in
    rw r (search tail-refused)

pub returns-in_err-element_given : goal.returns-in_err-element_given
returns-in_err-element_given c =
    let tail = c.in_ok-tail_answer.ensures in
    let e = c.in_err-element_given.ensures in
    let bad = refusal-not-0 c.in_err-element_given.field-0.0 in
    let r : c.from_residual-in_err-element_given.result ≡ Err c.in_err-element_given.field-0.0 = search rules in
    rw r (search element-refused)

pub returns-then-reference-eq-CUSTOM : goal.returns-then-reference-eq-CUSTOM
returns-then-reference-eq-CUSTOM c =
    let tail = c.in_ok-tail_answer.ensures in
    let element = c.in_ok-element_given.ensures in
    search custom

pub returns-then-has_nil : goal.returns-then-has_nil
returns-then-has_nil c =
    let tail = c.in_ok-tail_answer.ensures in
    let element = c.in_ok-element_given.ensures in
    search nil-named

pub returns : goal.returns
returns c =
    let tail = c.in_ok-tail_answer.ensures in
    let element = c.in_ok-element_given.ensures in
    search done
