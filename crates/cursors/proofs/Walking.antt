-- Step k of any walk, by its numbers: what is left from a cursor is numbered from 0 again.
use Prim.Native.Nat.{ℕ, suc, zero}
use mathlib.Core.Path.{◌≡◌, sym, ◌∙◌}
use borrow.Author.Tests.{eqb-true, eqb-false}
use lib.Dec.{eqb}
use Rattle.kinds.proofs.Refusing.{by-test}
use Rattle.cursors.specs.Cursors.{step_number}

module _ {C A B : Type 0} (step : C → A) (answer : A → ℕ) (next : A → C) (shown : A → B) (number : C → ℕ → B) (Good : C → Type 0)
    (first : (c : C) → Good c → shown (step c) ≡ number c 0)
    (later : (c : C) → Good c → answer (step c) ≡ 0 → (k : ℕ) → (Good (next (step c))) × (number c (suc k) ≡ number (next (step c)) k))
    (ended : (c : C) → Good c → (answer (step c) ≡ 0 → ⊥) → (k : ℕ) → number c (suc k) ≡ shown (step c))
  where
    pub walked : (c : C) → Good c → (k : ℕ) → shown (step_number step answer next c k) ≡ number c k
    unfolding step_number
    walked c g zero = first c g
    walked c g (suc k) =
        by-test (λ (a : A). shown a ≡ number c (suc k)) (eqb (answer (step c)) 0) _ _
        (λ t. let l = later c g (eqb-true _ _ t) k in walked (next (step c)) l.0 k ∙ sym l.1)
        (λ f. sym (ended c g (eqb-false _ _ f) k))

-- what every step has, step k has
pub each_step : {C A : Type 0} (step : C → A) (answer : A → ℕ) (next : A → C) (P : A → Type 0) → ((c : C) → P (step c)) → (c : C) (k : ℕ) → P (step_number step answer next c k)
unfolding step_number
each_step step answer next P h c zero = h c
each_step step answer next P h c (suc k) =
    by-test P (eqb (answer (step c)) 0) _ _ (λ t. each_step step answer next P h (next (step c)) k) (λ f. h c)
