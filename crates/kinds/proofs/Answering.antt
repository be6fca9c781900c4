-- Laws of the numbers that are answered.
use Prim.Native.Nat.{ℕ}
use mathlib.Core.Path.{◌≡◌, ◌∙◌}
use mathlib.Core.Bool.{false}
use native.Mathlib.Omega.{arith}
use borrow.Author.Tests.{ne_eqb}
use lib.Dec.{eqb}
use Rattle.kinds.specs.Answers.{refusal_number}
use Rattle.kinds.specs.declared.refusal.Refusal.{Refusal}

-- no refusal has the number of a call that is done
pub refusal-not-0 : (why : Refusal) → refusal_number why ≡ 0 → ⊥
refusal-not-0 why e = grind arith

pub refusal-some : (why : Refusal) {n : ℕ} → refusal_number why ≡ n → n ≡ 0 → ⊥
refusal-some why e z = refusal-not-0 why (e ∙ z)

pub refusal-eqb : (why : Refusal) → eqb (refusal_number why) 0 ≡ false
refusal-eqb why = ne_eqb _ 0 (refusal-not-0 why)
