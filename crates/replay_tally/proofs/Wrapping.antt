-- The tally after a call: sides by code, and a tally as 64 bits hold it.
use Prim.Native.Nat.{ℕ, ◌+◌}
use mathlib.Core.Path.{◌≡◌, refl, sym, ap, ◌∙◌}
use mathlib.Core.Bool.{Bool, true, false, cond, ◌||◌}
use native.Mathlib.Omega.{arith}
use borrow.Author.Tests.{ne_eqb}
use Rattle.tally.specs.declared.Tally.{Tally}
use Rattle.tally.specs.Tallies.{raised, wrapped}
use Rattle.tally.proofs.Tallies.{raised-on}
use Rattle.balance.specs.Sides.{Side, granting, taking, running, beginning, moved}
use Rattle.replay_tally.specs.Sums.{side_as, side_from}

-- a code that is none of these
pub side-else : (k : ℕ) → (k ≡ 6 → ⊥) → (k ≡ 9 → ⊥) → (k ≡ 2 → ⊥) → (k ≡ 7 → ⊥) → (k ≡ 12 → ⊥) → (k ≡ 0 → ⊥) → (k ≡ 19 → ⊥)
    → side_as k ≡ granting
unfolding side_as
side-else k a b c d e f g u =
    cond (ne_eqb k 6 a u || ne_eqb k 9 b u) taking
    (cond (ne_eqb k 2 c u || (ne_eqb k 7 d u || ne_eqb k 12 e u)) running (cond (ne_eqb k 0 f u || ne_eqb k 19 g u) beginning granting))

pub from-else : (n : ℕ) → (n ≡ 1 → ⊥) → (n ≡ 2 → ⊥) → (n ≡ 3 → ⊥) → side_from n ≡ granting
from-else n a b c u = cond (ne_eqb n 1 a u) taking (cond (ne_eqb n 2 b u) running (cond (ne_eqb n 3 c u) beginning granting))

plus_none : (n : ℕ) → n + 0 ≡ n
plus_none n = omega arith

-- raised by nothing
pub raised-none : (y : Tally) → raised y 0 0 0 ≡ y
raised-none y u = record { granted = plus_none y.granted u; taken = plus_none y.taken u; rundown = plus_none y.rundown u }

none-plus : (n : ℕ) → 0 + n ≡ n
none-plus n = omega arith

pub raised-first : (n : ℕ) → raised (record { granted = 0; taken = 0; rundown = 0 }) n 0 0 ≡ record { granted = n; taken = 0; rundown = 0 }
raised-first n u = record { granted = none-plus n u; taken = 0; rundown = 0 }

-- as 64 bits hold it once or twice
pub wrapped-twice : (y : Tally) → wrapped (wrapped y) ≡ wrapped y
wrapped-twice y = ap wrapped (sym (raised-none (wrapped y))) ∙ raised-on y 0 0 0 ∙ ap wrapped (raised-none y)

-- a tally moves alike as 64 bits hold it
pub moved_on : (d : Side) (ok : Bool) (a b : ℕ) (y : Tally) → wrapped (moved d ok a b (wrapped y)) ≡ wrapped (moved d ok a b y)
moved_on granting ok a b y = raised-on y _ 0 0
moved_on taking ok a b y = raised-on y 0 _ 0
moved_on running ok a b y = raised-on y 0 0 _
moved_on beginning true a b y = refl
moved_on beginning false a b y = wrapped-twice y
