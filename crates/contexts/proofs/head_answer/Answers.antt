-- `head_answer`: the rows of `head_answer`, in their order.
use Prim.Native.Nat.{ℕ, ◌<◌, ◌≤◌}
use mathlib.Core.Path.{◌≡◌, sym, ◌∙◌}
use mathlib.Core.List.{List}
use borrow.Author.Tests.{lt-ltb, le-ltb}
use lib.ListN.{length}
use Rattle.kinds.specs.Refusals.{order}
use Rattle.kinds.proofs.Refusing.{ne-differ, eq-differ, last_row}
use Rattle.fields.specs.Fields.{field}
use Rattle.contexts.specs.Contexts.{extents_answer, head_answer}
use Rattle.contexts.proofs.head_answer.Goals as goal

module _ (s : List ℕ) where
  major-short : length s < 2 → 13 ≡ head_answer s
  unfolding head_answer order
  major-short h = simp (lt-ltb _ _ h)

  module _ (a : 2 ≤ length s) (x : ℕ) (major : x ≡ field s 0 2) where
    major-other : (x ≡ 1 → ⊥) → 14 ≡ head_answer s
    unfolding head_answer order
    major-other h = simp (le-ltb _ _ a, ne-differ _ _ (λ z. h (major ∙ z)))

    module _ (d : x ≡ 1) where
      minor-short : length s < 4 → 13 ≡ head_answer s
      unfolding head_answer order
      minor-short h = simp (le-ltb _ _ a, eq-differ _ _ (sym major ∙ d), lt-ltb _ _ h)

      module _ (b : 4 ≤ length s) (y : ℕ) (minor : y ≡ field s 2 2) where
        minor-other : (y ≡ 1 → ⊥) → 14 ≡ head_answer s
        unfolding head_answer order
        minor-other h = simp (le-ltb _ _ a, eq-differ _ _ (sym major ∙ d), le-ltb _ _ b, ne-differ _ _ (λ z. h (minor ∙ z)))

        module _ (e : y ≡ 1) where
          flags-short : length s < 24 → 13 ≡ head_answer s
          unfolding head_answer order
          flags-short h = simp (le-ltb _ _ a, eq-differ _ _ (sym major ∙ d), le-ltb _ _ b, eq-differ _ _ (sym minor ∙ e), lt-ltb _ _ h)

          module _ (l : 24 ≤ length s) (n : ℕ) (flags : n ≡ field s 20 4) where
            flags-other : (n ≡ 2 → ⊥) → 14 ≡ head_answer s
            unfolding head_answer order
            flags-other h =
                simp (le-ltb _ _ a, eq-differ _ _ (sym major ∙ d), le-ltb _ _ b, eq-differ _ _ (sym minor ∙ e), le-ltb _ _ l, ne-differ _ _ (λ z. h (flags ∙ z)))

            extents-next : n ≡ 2 → (r : ℕ) → r ≡ extents_answer s → r ≡ head_answer s
            unfolding head_answer order
            extents-next f r h =
                simp (le-ltb _ _ a, eq-differ _ _ (sym major ∙ d), le-ltb _ _ b, eq-differ _ _ (sym minor ∙ e), le-ltb _ _ l, eq-differ _ _ (sym flags ∙ f)) (h ∙ sym (last_row _))

pub returns-then-s-lt2 : goal.returns-then-s-lt2
returns-then-s-lt2 c = search major-short

pub returns-then-read_u16-ne1 : goal.returns-then-read_u16-ne1
returns-then-read_u16-ne1 c = search major-other

pub returns-then-s-lt4 : goal.returns-then-s-lt4
returns-then-s-lt4 c = search minor-short

pub returns-then-read_u16-ne1-2 : goal.returns-then-read_u16-ne1-2
returns-then-read_u16-ne1-2 c = search minor-other

pub returns-then-s-lt24 : goal.returns-then-s-lt24
returns-then-s-lt24 c = search flags-short

pub returns-then-read_u32-ne2 : goal.returns-then-read_u32-ne2
returns-then-read_u32-ne2 c = search flags-other

pub returns : goal.returns
returns c = search extents-next
