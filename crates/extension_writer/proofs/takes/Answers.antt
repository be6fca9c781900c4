-- `extensions::takes`: the words and data agree, then the rows of `writable`.
use Prim.Native.Nat.{ℕ, ◌/◌, ◌%◌, ◌<◌, ◌≤◌}
use mathlib.Core.Path.{◌≡◌, sym, ◌∙◌}
use mathlib.Core.Bool.{Bool, true, false, not}
use mathlib.Core.List.{List}
use native.Mathlib.Omega.{arith}
use borrow.Author.Tests.{ne_eqb, eqb-true, lt-leb, le-leb, not-true, not-false}
use lib.Dec.{eqb}
use lib.ListN.{length}
use Rattle.extension_writer.specs.Writing.{takes, agree, sizes, words_writable, writable, given}
use Rattle.extension_writer.proofs.Writes.{length-described, words-described, bare}
use Rattle.extension_writer.proofs.takes.Goals as goal

module _ (pointer array : ℕ) (ws d : List ℕ) where
  uneven : (length ws % 4 ≡ 0 → ⊥) → false ≡ takes pointer array ws d
  unfolding takes agree
  uneven h = rw (ne_eqb _ _ h)

  module _ (even : length ws % 4 ≡ 0) (b : Bool) (summed : b ≡ eqb (sizes ws 0 (length ws / 4)) (length d)) where
    other-sum : not b ≡ true → false ≡ takes pointer array ws d
    unfolding takes agree
    other-sum h = rw (even, sym summed ∙ not-true _ h)

    module _ (sum : not b ≡ false) where
      agreed : agree ws d ≡ true
      unfolding agree
      agreed = rw (even, sym summed ∙ not-false _ sum)

      bare-array : pointer ≡ 0 → (array ≡ 0 → ⊥) → false ≡ takes pointer array ws d
      unfolding takes writable given
      bare-array h z = rw (agreed, h, ne_eqb _ _ z)

      bare-pointer : pointer ≡ 0 → array ≡ 0 → eqb (length ws / 4) 0 ≡ takes pointer array ws d
      unfolding takes writable given
      bare-pointer h z = rw (agreed, h, z, length-described)

      module _ (some : pointer ≡ 0 → ⊥) where
        too_many_lem : 32 < length ws / 4 → false ≡ takes pointer array ws d
        unfolding takes writable given
        too_many_lem h = rw (agreed, ne_eqb _ _ some, length-described, lt-leb _ _ h)

        module _ (few : length ws / 4 ≤ 32) where
          null-array : array ≡ 0 → eqb (length ws / 4) 0 ≡ takes pointer array ws d
          unfolding takes writable given
          null-array h = rw (agreed, ne_eqb _ _ some, h, length-described, le-leb _ _ few) (bare ws d (length ws / 4))

          full-array : (array ≡ 0 → ⊥) → (r : Bool) → r ≡ words_writable ws 0 (length ws / 4) → r ≡ takes pointer array ws d
          unfolding takes writable given
          full-array h r e =
              let all : sizes ws 0 (length ws / 4) ≡ length d = eqb-true _ _ (sym summed ∙ not-false _ sum) in
              rw (agreed, ne_eqb _ _ some, ne_eqb _ _ h, length-described, le-leb _ _ few, words-described ws d 0 (length ws / 4) (omega arith)) e

pub returns-then-entries-ne0 : goal.returns-then-entries-ne0
returns-then-entries-ne0 c = search uneven

pub returns-then-not-sizes_are : goal.returns-then-not-sizes_are
returns-then-not-sizes_are c = search other-sum

pub returns-then-array-ne0 : goal.returns-then-array-ne0
returns-then-array-ne0 c = search bare-array

pub returns-then-pointer-eq0 : goal.returns-then-pointer-eq0
returns-then-pointer-eq0 c = search bare-pointer

pub returns-then-n-gt32 : goal.returns-then-n-gt32
returns-then-n-gt32 c = search too_many_lem

pub returns-then-array-eq0 : goal.returns-then-array-eq0
returns-then-array-eq0 c = search null-array

pub returns : goal.returns
returns c = search full-array
