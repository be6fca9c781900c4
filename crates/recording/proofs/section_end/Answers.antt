-- `recording::section_end`: the cases of `section_end`.
use Prim.Native.Nat.{ℕ, ◌+◌, ◌-◌, ◌<◌, ◌≤◌}
use mathlib.Core.Path.{◌≡◌, sym, ap, ◌∙◌}
use mathlib.Core.Bool.{Bool, true, false, not}
use mathlib.Core.List.{List}
use native.Mathlib.Omega.{arith}
use borrow.Author.Tests.{leb-true, leb-false, not-true, not-false}
use lib.Dec.{leb}
use lib.ListN.{length}
use Rattle.fields.specs.Fields.{field}
use Rattle.recording.specs.Places.{section_end}
use Rattle.recording.proofs.Places.{end_none, end-cut, end-over, end-here}
use Rattle.recording.proofs.section_end.Goals as goal

module _ (s : List ℕ) (at : ℕ) where
  nowhere : at ≡ 0 → 0 ≡ section_end s at
  nowhere h = sym (ap (section_end s) h ∙ end_none s)

  module _ (some : at ≡ 0 → ⊥) (b : Bool) (judged : b ≡ leb (at + 8) (length s)) where
    cut : not b ≡ true → 0 ≡ section_end s at
    cut h = sym (end-cut s at (leb-false _ _ (sym judged ∙ not-true _ h)))

    module _ (good : not b ≡ false) (n : ℕ) (count : n ≡ field s at 8) where
      over : length s - at - 8 < n → 0 ≡ section_end s at
      over h = sym (end-over s at (leb-true _ _ (sym judged ∙ not-false _ good)) (rw count at h))

      here : n ≤ length s - at - 8 → at + 8 + n ≡ section_end s at
      here h = rw count (sym (end-here s at some (leb-true _ _ (sym judged ∙ not-false _ good)) (rw count at h)))

pub returns-then-at-eq0 : goal.returns-then-at-eq0
returns-then-at-eq0 c = search nowhere

pub returns-then-not-inside : goal.returns-then-not-inside
returns-then-not-inside c = search cut

pub overflow_sub-left : goal.overflow_sub-left
overflow_sub-left c =
    let room : let a = c.args in a.at + 8 ≤ length a.s.now = leb-true _ _ (sym c.inside.ensures ∙ c.if-not-inside.false) in
    omega (arith, room)

pub overflow_sub-left-2 : goal.overflow_sub-left-2
overflow_sub-left-2 c =
    let room : let a = c.args in a.at + 8 ≤ length a.s.now = leb-true _ _ (sym c.inside.ensures ∙ c.if-not-inside.false) in
    omega (arith, room)

pub returns-then-left-count : goal.returns-then-left-count
returns-then-left-count c = search over

pub overflow_add-result : goal.overflow_add-result
overflow_add-result c =
    let room : let a = c.args in a.at + 8 ≤ length a.s.now = leb-true _ _ (sym c.inside.ensures ∙ c.if-not-inside.false) in
    omega (arith, room)

pub overflow_add-result-2 : goal.overflow_add-result-2
overflow_add-result-2 c =
    let room : let a = c.args in a.at + 8 ≤ length a.s.now = leb-true _ _ (sym c.inside.ensures ∙ c.if-not-inside.false) in
    omega (arith, room)

pub returns : goal.returns
returns c = search here
