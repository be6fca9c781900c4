-- The sum after a call that grants alone, by its code.
use Prim.Native.Nat.{ℕ, ◌+◌}
use mathlib.Core.Path.{◌≡◌}
use mathlib.Core.List.{List}
use borrow.Author.Tests.{ne_eqb}
use Rattle.fields.specs.Fields.{field}
use Rattle.replay_tally.specs.Sums.{summed_as}

module _ (k : ℕ) (s : List ℕ) (n : ℕ) where
  pub summed-add : k ≡ 5 → summed_as k s n ≡ n + (field s 21 4 + field s 25 4)
  unfolding summed_as
  summed-add e = rw e

  pub summed-object : k ≡ 3 → summed_as k s n ≡ n + field s 49 4
  unfolding summed_as
  summed-object e = rw e

  pub summed-interface : k ≡ 4 → summed_as k s n ≡ n + field s 41 4
  unfolding summed_as
  summed-interface e = rw e

  pub summed-else : (k ≡ 5 → ⊥) → (k ≡ 3 → ⊥) → (k ≡ 4 → ⊥) → summed_as k s n ≡ n
  unfolding summed_as
  summed-else a b c = rw (ne_eqb k 5 a, ne_eqb k 3 b, ne_eqb k 4 c)
