-- `extents_answer`: the rows of `extents_answer`, in their order.
use Prim.Native.Nat.{ℕ, ◌<◌, ◌≤◌}
use mathlib.Core.Path.{◌≡◌, sym, ◌∙◌}
use mathlib.Core.List.{List}
use borrow.Author.Tests.{lt-ltb, le-ltb}
use lib.ListN.{length}
use Rattle.kinds.specs.Refusals.{order}
use Rattle.kinds.proofs.Refusing.{ne-differ, eq-differ}
use Rattle.fields.specs.Fields.{field}
use Rattle.contexts.specs.Contexts.{extents_answer}
use Rattle.contexts.proofs.extents_answer.Goals as goal

module _ (s : List ℕ) where
  extents-short : length s < 32 → 13 ≡ extents_answer s
  unfolding extents_answer order
  extents-short h = simp (lt-ltb _ _ h)

  module _ (a : 32 ≤ length s) (x : ℕ) (extents : x ≡ field s 28 4) where
    extents-some : (x ≡ 0 → ⊥) → 14 ≡ extents_answer s
    unfolding extents_answer order
    extents-some h = simp (le-ltb _ _ a, ne-differ _ _ (λ z. h (extents ∙ z)))

    module _ (d : x ≡ 0) where
      reserved-short : length s < 36 → 13 ≡ extents_answer s
      unfolding extents_answer order
      reserved-short h = simp (le-ltb _ _ a, eq-differ _ _ (sym extents ∙ d), lt-ltb _ _ h)

      module _ (b : 36 ≤ length s) (y : ℕ) (reserved : y ≡ field s 32 4) where
        reserved-some : (y ≡ 0 → ⊥) → 14 ≡ extents_answer s
        unfolding extents_answer order
        reserved-some h = simp (le-ltb _ _ a, eq-differ _ _ (sym extents ∙ d), le-ltb _ _ b, ne-differ _ _ (λ z. h (reserved ∙ z)))

        module _ (e : y ≡ 0) where
          rest-short : length s < 48 → 13 ≡ extents_answer s
          unfolding extents_answer order
          rest-short h = simp (le-ltb _ _ a, eq-differ _ _ (sym extents ∙ d), le-ltb _ _ b, eq-differ _ _ (sym reserved ∙ e), lt-ltb _ _ h)

          done : 48 ≤ length s → 0 ≡ extents_answer s
          unfolding extents_answer order
          done h = simp (le-ltb _ _ a, eq-differ _ _ (sym extents ∙ d), le-ltb _ _ b, eq-differ _ _ (sym reserved ∙ e), le-ltb _ _ h)

pub returns-then-s-lt32 : goal.returns-then-s-lt32
returns-then-s-lt32 c = search extents-short

pub returns-then-read_u32-ne0 : goal.returns-then-read_u32-ne0
returns-then-read_u32-ne0 c = search extents-some

pub returns-then-s-lt36 : goal.returns-then-s-lt36
returns-then-s-lt36 c = search reserved-short

pub returns-then-read_u32-ne0-2 : goal.returns-then-read_u32-ne0-2
returns-then-read_u32-ne0-2 c = search reserved-some

pub returns-then-s-lt48 : goal.returns-then-s-lt48
returns-then-s-lt48 c = search rest-short

pub returns : goal.returns
returns c = search done
