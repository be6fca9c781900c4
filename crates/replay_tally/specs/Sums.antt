-- The table's sum and the number of the tally that a call moves, by its code.
use Rattle.std.specs.Prelude.{ℕ, ◌+◌, ◌^◌, ◌<◌, ◌≡◌, Bool, true, false, cond, ◌||◌, List, eqb}
use Rattle.fields.specs.Fields.{field}
use Rattle.balance.specs.Sides.{Side, granting, taking, running, beginning}

-- the number that the call of a code moves
unfoldable pub side_as : ℕ → Side
side_as k = cond (eqb k 6 || eqb k 9) taking (cond (eqb k 2 || (eqb k 7 || eqb k 12)) running (cond (eqb k 0 || eqb k 19) beginning granting))

-- the number of the tally that a call moves, by the number that code keeps for it
abbrev pub side_from : ℕ → Side
side_from n = cond (eqb n 1) taking (cond (eqb n 2) running (cond (eqb n 3) beginning granting))

-- the table's sum after an accepted call that grants alone, and no list, by its code and section: an add, the entry of an object or an
-- interface, and calls that grant nothing
unfoldable pub summed_as : ℕ → List ℕ → ℕ → ℕ
summed_as k s n = cond (eqb k 5) (n + (field s 21 4 + field s 25 4)) (cond (eqb k 3) (n + field s 49 4) (cond (eqb k 4) (n + field s 41 4) n))

-- What the sum before a call, by its code, section and recorded answer, tells of the sum after it.
pub record SumTold (k : ℕ) (s answer : List ℕ) (agrees accepted : Bool) (old new : ℕ) : Type 0 where
  pub refused : accepted ≡ false → new ≡ old
  pub told : accepted ≡ true → side_as k ≡ granting → (k ≡ 8 → ⊥) → new ≡ summed_as k s old
  pub released : accepted ≡ true → agrees ≡ true → k ≡ 6 → new + (field answer 8 8 + field answer 16 8) ≡ old
  pub small : new < 2 ^ 64
