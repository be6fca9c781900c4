-- `given_answer`: the rows of `given_answer`, in their order.
use Prim.Native.Nat.{ℕ, ◌<◌, ◌≤◌}
use mathlib.Core.Path.{◌≡◌, sym, ◌∙◌}
use mathlib.Core.Bool.{Bool, true, false}
use mathlib.Core.List.{List}
use borrow.Author.Tests.{eq-eqb, ne_eqb, lt-ltb, le-ltb}
use lib.ListN.{length}
use Rattle.kinds.specs.Refusals.{order}
use Rattle.kinds.specs.declared.Guid.{Guid}
use Rattle.kinds.proofs.Refusing.{last_row}
use Rattle.fields.specs.Fields.{longest}
use Rattle.elements.specs.Elements.{is_nil, content_answer, given_answer}
use Rattle.references.specs.References.{answer_within}
use Rattle.reference_writer.proofs.given_answer.Goals as goal

module _ (id : Guid) (x : List ℕ) (b : Bool) (judged : b ≡ is_nil id) where
  nil : b ≡ true → 14 ≡ given_answer (answer_within 7) id x
  unfolding given_answer order
  nil h = rw (sym judged ∙ h)

  module _ (named : b ≡ false) where
    empty : length x ≡ 0 → 14 ≡ given_answer (answer_within 7) id x
    unfolding given_answer order
    empty h = rw (sym judged ∙ named, eq-eqb _ _ h)

    module _ (some : length x ≡ 0 → ⊥) where
      long : longest < length x → 14 ≡ given_answer (answer_within 7) id x
      unfolding given_answer order
      long h = rw (sym judged ∙ named, ne_eqb _ _ some, lt-ltb _ _ h)

      inner : length x ≤ longest → (n : ℕ) → n ≡ content_answer (answer_within 7) x → n ≡ given_answer (answer_within 7) id x
      unfolding given_answer order
      inner h n e = rw (sym judged ∙ named, ne_eqb _ _ some, le-ltb _ _ h) (e ∙ sym (last_row _))

pub returns-then-is_nil : goal.returns-then-is_nil
returns-then-is_nil c = search nil

pub returns-then-x-eq0 : goal.returns-then-x-eq0
returns-then-x-eq0 c = search empty

pub returns-then-x-gt-LONGEST : goal.returns-then-x-gt-LONGEST
returns-then-x-gt-LONGEST c = search long

pub returns : goal.returns
returns c = search inner
