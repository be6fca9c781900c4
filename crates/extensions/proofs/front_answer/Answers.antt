-- `extensions::front_answer`: the rows of `front_answer`, in their order.
use Prim.Native.Nat.{ℕ, ◌+◌, ◌<◌, ◌≤◌}
use mathlib.Core.Path.{◌≡◌, sym, ◌∙◌}
use mathlib.Core.Bool.{Bool, true, false}
use mathlib.Core.List.{List}
use native.Mathlib.Omega.{arith}
use borrow.Author.Tests.{leb-true, lt-ltb, le-ltb, eq-eqb, ne_eqb}
use lib.Dec.{leb}
use lib.ListN.{length}
use Rattle.kinds.specs.Refusals.{order}
use Rattle.fields.specs.Fields.{field}
use Rattle.extensions.specs.Extensions.{front_answer, array_at, count_at}
use Rattle.extensions.proofs.front_answer.Goals as goal

-- bytes of which w from at were found to be there
fits : {b : Bool} (s : List ℕ) (at w : ℕ) → b ≡ leb (at + w) (length s) → b ≡ true → at + w ≤ length s
fits s at w e h = leb-true _ _ (sym e ∙ h)

module _ {b : Bool} (s : List ℕ) (at : ℕ) (one : b ≡ leb (at + 8) (length s)) where
  count-short : b ≡ false → 13 ≡ front_answer s at
  unfolding front_answer order
  count-short h = simp (sym one ∙ h)

  module _ {n : ℕ} (l : b ≡ true) (count : n ≡ count_at s at) where
    too-many : 32 < n → 14 ≡ front_answer s at
    unfolding front_answer order
    too-many h =
        let above : 32 < count_at s at = omega arith in
        simp (sym one ∙ l, lt-ltb _ _ above)

    module _ {b₂ : Bool} (m : n ≤ 32) (two : b₂ ≡ leb (at + 12) (length s)) where
      few : count_at s at ≤ 32
      few = omega arith

      reserved-short : b₂ ≡ false → 13 ≡ front_answer s at
      unfolding front_answer order
      reserved-short h = simp (sym one ∙ l, le-ltb _ _ few, sym two ∙ h)

      module _ {x : ℕ} (l₂ : b₂ ≡ true) (reserved : x ≡ field s (at + 8) 4) where
        reserved-some : (x ≡ 0 → ⊥) → 14 ≡ front_answer s at
        unfolding front_answer order
        reserved-some h = simp (sym one ∙ l, le-ltb _ _ few, sym two ∙ l₂, ne_eqb _ _ (λ z. h (reserved ∙ z)))

        module _ {b₃ : Bool} (clear : x ≡ 0) (three : b₃ ≡ leb (at + 16) (length s)) where
          pointer-short : b₃ ≡ false → 13 ≡ front_answer s at
          unfolding front_answer order
          pointer-short h = simp (sym one ∙ l, le-ltb _ _ few, sym two ∙ l₂, sym reserved ∙ clear, sym three ∙ h)

          module _ {p : ℕ} (l₃ : b₃ ≡ true) (pointer : p ≡ array_at s at) where
            some : (p ≡ 0 → ⊥) → 0 ≡ front_answer s at
            unfolding front_answer order
            some h = simp (sym one ∙ l, le-ltb _ _ few, sym two ∙ l₂, sym reserved ∙ clear, sym three ∙ l₃, ne_eqb _ _ (λ z. h (pointer ∙ z)))

            none : p ≡ 0 → n ≡ 0 → 0 ≡ front_answer s at
            unfolding front_answer order
            none h z = simp (sym one ∙ l, le-ltb _ _ few, sym two ∙ l₂, sym reserved ∙ clear, sym three ∙ l₃, sym pointer ∙ h, eq-eqb _ _ (sym count ∙ z))

            lost : p ≡ 0 → (n ≡ 0 → ⊥) → 14 ≡ front_answer s at
            unfolding front_answer order
            lost h z = simp (sym one ∙ l, le-ltb _ _ few, sym two ∙ l₂, sym reserved ∙ clear, sym three ∙ l₃, sym pointer ∙ h, ne_eqb _ _ (λ y. z (count ∙ y)))

pub returns-then-not-inside : goal.returns-then-not-inside
returns-then-not-inside c = search count-short

pub overflow_add-at : goal.overflow_add-at
overflow_add-at c = omega (arith, fits _ _ _ c.inside.ensures c.if-not-inside.false)

pub returns-then-n-gt32 : goal.returns-then-n-gt32
returns-then-n-gt32 c = search too-many

pub returns-then-not-inside-2 : goal.returns-then-not-inside-2
returns-then-not-inside-2 c = search reserved-short

pub overflow_add-at-2 : goal.overflow_add-at-2
overflow_add-at-2 c = omega (arith, fits _ _ _ c.inside-2.ensures c.if-not-inside-2.false)

pub returns-then-read_u32-ne0 : goal.returns-then-read_u32-ne0
returns-then-read_u32-ne0 c = search reserved-some

pub returns-then-not-inside-3 : goal.returns-then-not-inside-3
returns-then-not-inside-3 c = search pointer-short

pub overflow_add-at-3 : goal.overflow_add-at-3
overflow_add-at-3 c = omega (arith, fits _ _ _ c.inside-3.ensures c.if-not-inside-3.false)

pub returns-then-read_u32-ne0-2 : goal.returns-then-read_u32-ne0-2
returns-then-read_u32-ne0-2 c = search some

pub returns-then-n-eq0 : goal.returns-then-n-eq0
returns-then-n-eq0 c = search none

pub returns-else-n-eq0 : goal.returns-else-n-eq0
returns-else-n-eq0 c = search lost
