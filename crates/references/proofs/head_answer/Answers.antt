-- `head_answer`: the rows of `head_answer`, in their order.
use Prim.Native.Nat.{ℕ, ◌<◌, ◌≤◌}
use mathlib.Core.Path.{◌≡◌, sym, ap, ◌∙◌}
use mathlib.Core.Bool.{Bool, true, false, not}
use mathlib.Core.List.{List}
use borrow.Author.Tests.{lt-ltb, le-ltb, not-true, not-false}
use lib.ListN.{length}
use Rattle.kinds.specs.Refusals.{order}
use Rattle.kinds.proofs.Refusing.{ne-differ, eq-differ}
use Rattle.fields.specs.Fields.{field}
use Rattle.elements.specs.Elements.{signature}
use Rattle.references.specs.References.{is_form, fixed_size, head_answer}
use Rattle.references.proofs.head_answer.Goals as goal

module _ (s : List ℕ) where
  short : length s < 24 → 13 ≡ head_answer s
  unfolding head_answer order
  short h = simp (lt-ltb _ _ h)

  module _ (a : 24 ≤ length s) (x : ℕ) (first : x ≡ field s 0 4) where
    unsigned : (x ≡ signature → ⊥) → 14 ≡ head_answer s
    unfolding head_answer order
    unsigned h = simp (le-ltb _ _ a, ne-differ _ _ (λ z. h (first ∙ z)))

    module _ (signed : x ≡ signature) (f : ℕ) (flags : f ≡ field s 4 4) (b : Bool) (judged : b ≡ is_form f) where
      no-form : not b ≡ true → 14 ≡ head_answer s
      unfolding head_answer order
      no-form h = simp (le-ltb _ _ a, eq-differ _ _ (sym first ∙ signed), ap is_form (sym flags) ∙ sym judged ∙ not-true _ h)

      module _ (good : not b ≡ false) (n : ℕ) (fixed : n ≡ fixed_size f) where
        size : n ≡ fixed_size (field s 4 4)
        size = fixed ∙ ap fixed_size flags

        fixed-short : length s < n → 13 ≡ head_answer s
        unfolding head_answer order
        fixed-short h = simp (le-ltb _ _ a, eq-differ _ _ (sym first ∙ signed), ap is_form (sym flags) ∙ sym judged ∙ not-false _ good, ← size, lt-ltb _ _ h)

        done : n ≤ length s → 0 ≡ head_answer s
        unfolding head_answer order
        done h = simp (le-ltb _ _ a, eq-differ _ _ (sym first ∙ signed), ap is_form (sym flags) ∙ sym judged ∙ not-false _ good, ← size, le-ltb _ _ h)

pub returns-then-s-lt24 : goal.returns-then-s-lt24
returns-then-s-lt24 c = search short

pub returns-then-read_u32-ne-SIGNATURE : goal.returns-then-read_u32-ne-SIGNATURE
returns-then-read_u32-ne-SIGNATURE c = search unsigned

pub returns-then-not-is_form : goal.returns-then-not-is_form
returns-then-not-is_form c = search no-form

pub returns-then-s-fixed_size : goal.returns-then-s-fixed_size
returns-then-s-fixed_size c = search fixed-short

pub returns : goal.returns
returns c = search done
