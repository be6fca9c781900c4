-- Laws of tests and of refusals in their order.
use Prim.Native.Nat.{ℕ, ◌<◌}
use mathlib.Core.Path.{◌≡◌, refl, sym, ap, ◌∙◌}
use mathlib.Core.Bool.{Bool, true, false, cond, ◌||◌}
use mathlib.Core.List.{List, [], ◌∷◌}
use native.Mathlib.Omega.{arith}
use borrow.Author.Tests.{eq-eqb, ne_eqb, eqb-true, eqb-false, not-false}
use lib.Dec.{eqb}
use Rattle.kinds.specs.Refusals.{Row, ◌gives◌, differ, passes, order}

pub true-false : true ≡ false → ⊥
true-false e = let z : ◌≡◌ {A = ℕ} 0 1 = cc in omega arith

pub ne-differ : (a b : ℕ) → (a ≡ b → ⊥) → differ a b ≡ true
ne-differ a b h = rw (ne_eqb a b h)

pub eq-differ : (a b : ℕ) → a ≡ b → differ a b ≡ false
eq-differ a b h = rw (eq-eqb a b h)

pub differ-false : (a b : ℕ) → differ a b ≡ false → a ≡ b
differ-false a b h = eqb-true a b (not-false (eqb a b) h)

-- two tests of which each holds where the other does
pub same_test : (x y : Bool) → (x ≡ true → y ≡ true) → (y ≡ true → x ≡ true) → x ≡ y
same_test true y f g = sym (f refl)
same_test false true f g = g refl
same_test false false f g = refl

-- what holds of both branches of a test holds of its outcome
pub by-test : {A : Type 0} (P : A → Type 0) (b : Bool) (x y : A) → (b ≡ true → P x) → (b ≡ false → P y) → P (cond b x y)
by-test P true x y f g = f refl
by-test P false x y f g = g refl

pub or-false : (a b : Bool) → (a || b) ≡ false → (a ≡ false) × (b ≡ false)
or-false true b e = absurd (true-false e)
or-false false b e = (refl, e)

-- a reader's result with answer 0 is its value, and no refusal
pub accepted-by : {A : Type 0} (f : A → ℕ) (n : ℕ) (x y z : A) → f y ≡ n → f z ≡ 0 → cond (eqb n 0) x y ≡ z → (n ≡ 0) × (x ≡ z)
accepted-by f n x y z refused done e =
    by-test (λ a. a ≡ z → (n ≡ 0) × (x ≡ z)) (eqb n 0) x y
    (λ t p. (eqb-true n 0 t, p))
    (λ t p. absurd (eqb-false n 0 t (sym refused ∙ ap f p ∙ done))) e

-- an answer 0 means that the test of the first row did not hold, and leaves the other rows
pub passed : (b : Bool) (n : ℕ) (rs : List Row) → 0 < n → order (b gives n ∷ rs) ≡ 0 → (b ≡ false) × (order rs ≡ 0)
unfolding order
passed true n rs h e = absurd (omega arith)
passed false n rs h e = (refl, e)

-- the same where the first row passes an answer on
pub passed_on : (n : ℕ) (rs : List Row) → order (passes n ∷ rs) ≡ 0 → (n ≡ 0) × (order rs ≡ 0)
unfolding order
passed_on n rs e =
    by-test (λ (x : ℕ). x ≡ 0 → (n ≡ 0) × (order rs ≡ 0)) (differ n 0) n (order rs)
    (λ d z. absurd (true-false (sym d ∙ eq-differ n 0 z)))
    (λ d z. (differ-false n 0 d, z)) e

-- an answer that the last row passes on
pub last_row : (n : ℕ) → order (passes n ∷ []) ≡ n
unfolding order
last_row n = by-test (λ (x : ℕ). x ≡ n) (differ n 0) n 0 (λ e. refl) (λ e. sym (differ-false n 0 e))
