-- `element_front`: the rows of `element_front`, in their order.
use Prim.Native.Nat.{ℕ, ◌+◌, ◌<◌, ◌≤◌}
use mathlib.Core.Path.{◌≡◌, sym, ap, ◌∙◌}
use mathlib.Core.Bool.{Bool, true, false}
use mathlib.Core.List.{List, [], ◌∷◌}
use borrow.Author.Tests.{lt-ltb, le-ltb, eq-eqb, ne_eqb}
use lib.Dec.{ltb}
use lib.ListN.{length}
use Rattle.kinds.specs.Refusals.{◌gives◌, differ, order}
use Rattle.kinds.specs.declared.Guid.{Guid}
use Rattle.kinds.proofs.Refusing.{ne-differ, eq-differ}
use Rattle.fields.specs.Fields.{field, rounded, guid_at}
use Rattle.elements.specs.Elements.{is_nil, content_size, element_front}
use Rattle.elements.proofs.element_front.Goals as goal

module _ (t : List ℕ) where
  short : length t < 16 → 13 ≡ element_front t
  unfolding element_front order
  short h = simp (lt-ltb _ _ h)

  module _ (a : 16 ≤ length t) (id : Guid) (read : id ≡ guid_at t 0) (b : Bool) (judged : b ≡ is_nil id) where
    nil : b ≡ true → 14 ≡ element_front t
    unfolding element_front order
    nil h = simp (le-ltb _ _ a, ap is_nil (sym read) ∙ sym judged ∙ h)

    module _ (named : b ≡ false) where
      size-short : length t < 20 → 13 ≡ element_front t
      unfolding element_front order
      size-short h = simp (le-ltb _ _ a, ap is_nil (sym read) ∙ sym judged ∙ named, lt-ltb _ _ h)

      module _ (l : 20 ≤ length t) (n : ℕ) (size : n ≡ content_size t) where
        empty : n ≡ 0 → 14 ≡ element_front t
        unfolding element_front order
        empty h = simp (le-ltb _ _ a, ap is_nil (sym read) ∙ sym judged ∙ named, le-ltb _ _ l, eq-eqb _ _ (sym size ∙ h))

        module _ (some : n ≡ 0 → ⊥) where
          whole-short : length t < 24 → 13 ≡ element_front t
          unfolding element_front order
          whole-short h = simp (le-ltb _ _ a, ap is_nil (sym read) ∙ sym judged ∙ named, le-ltb _ _ l, ne_eqb _ _ (λ z. some (size ∙ z)), lt-ltb _ _ h)

          module _ (m : 24 ≤ length t) (k r : ℕ) (stated : k ≡ field t 20 4) (whole : r ≡ rounded n) where
            -- what is left from the rounded size on
            left : element_front t ≡ order (differ k r gives 14 ∷ ltb (length t) (24 + k) gives 13 ∷ [])
            unfolding element_front order
            left =
                rw (stated, whole, size)
                (simp (le-ltb _ _ a, ap is_nil (sym read) ∙ sym judged ∙ named, le-ltb _ _ l, ne_eqb _ _ (λ z. some (size ∙ z)), le-ltb _ _ m))

            other : (k ≡ r → ⊥) → 14 ≡ element_front t
            unfolding order
            other h = rw (left, ne-differ _ _ h)

            data-short : k ≡ r → length t < 24 + k → 13 ≡ element_front t
            unfolding order
            data-short e h = rw (left, eq-differ _ _ e, lt-ltb _ _ h)

            done : k ≡ r → 24 + k ≤ length t → 0 ≡ element_front t
            unfolding order
            done e h = rw (left, eq-differ _ _ e, le-ltb _ _ h)

pub returns-then-t-lt16 : goal.returns-then-t-lt16
returns-then-t-lt16 c = search short

pub returns-then-is_nil : goal.returns-then-is_nil
returns-then-is_nil c = search nil

pub returns-then-t-lt20 : goal.returns-then-t-lt20
returns-then-t-lt20 c = search size-short

pub returns-then-size-eq0 : goal.returns-then-size-eq0
returns-then-size-eq0 c = search empty

pub returns-then-t-lt24 : goal.returns-then-t-lt24
returns-then-t-lt24 c = search whole-short

pub returns-then-most-rounded : goal.returns-then-most-rounded
returns-then-most-rounded c = search other

pub returns-then-t-most : goal.returns-then-t-most
returns-then-t-most c = search data-short

pub returns : goal.returns
returns c = search done
