-- `property_answer`: the rows of `property_answer`, in their order.
use Prim.Native.Nat.{ℕ, ◌+◌, ◌<◌, ◌≤◌}
use mathlib.Core.Path.{◌≡◌, sym, ap, ◌∙◌}
use mathlib.Core.Bool.{Bool, true, false, not}
use mathlib.Core.List.{List}
use native.Mathlib.Omega.{arith}
use borrow.Author.Tests.{lt-ltb, le-ltb, not-true, not-false}
use lib.ListN.{length}
use Rattle.kinds.specs.Refusals.{order}
use Rattle.fields.specs.Fields.{field}
use Rattle.contexts.specs.Contexts.{property_length, property_answer, is_property_flags}
use Rattle.contexts.proofs.property_answer.Goals as goal

module _ (t : List ℕ) where
  short : length t < 36 → 13 ≡ property_answer t
  unfolding property_answer order
  short h = simp (lt-ltb _ _ h)

  module _ (a : 36 ≤ length t) (x : ℕ) (flags : x ≡ field t 32 4) (b : Bool) (judged : b ≡ is_property_flags x) where
    other-flags : not b ≡ true → 14 ≡ property_answer t
    unfolding property_answer order
    other-flags h = simp (le-ltb _ _ a, ap is_property_flags (sym flags) ∙ sym judged ∙ not-true _ h)

    module _ (good : not b ≡ false) where
      size-short : length t < 40 → 13 ≡ property_answer t
      unfolding property_answer order
      size-short h = simp (le-ltb _ _ a, ap is_property_flags (sym flags) ∙ sym judged ∙ not-false _ good, lt-ltb _ _ h)

      module _ (l : 40 ≤ length t) (n : ℕ) (size : n ≡ field t 36 4) where
        data-short : length t < 40 + n → 13 ≡ property_answer t
        unfolding property_answer order
        data-short h =
            let w : length t < property_length t = omega arith in
            simp (le-ltb _ _ a, ap is_property_flags (sym flags) ∙ sym judged ∙ not-false _ good, le-ltb _ _ l, lt-ltb _ _ w)

        done : 40 + n ≤ length t → 0 ≡ property_answer t
        unfolding property_answer order
        done h =
            let w : property_length t ≤ length t = omega arith in
            simp (le-ltb _ _ a, ap is_property_flags (sym flags) ∙ sym judged ∙ not-false _ good, le-ltb _ _ l, le-ltb _ _ w)

pub returns-then-t-lt36 : goal.returns-then-t-lt36
returns-then-t-lt36 c = search short

pub returns-then-not-is_property_flags : goal.returns-then-not-is_property_flags
returns-then-not-is_property_flags c = search other-flags

pub returns-then-t-lt40 : goal.returns-then-t-lt40
returns-then-t-lt40 c = search size-short

pub returns-then-t-read_u32 : goal.returns-then-t-read_u32
returns-then-t-read_u32 c = search data-short

pub returns : goal.returns
returns c = search done
