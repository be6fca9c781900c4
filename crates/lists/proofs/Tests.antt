-- Laws of tests and of clauses.
use Prim.Native.Nat.{ℕ, ◌+◌, ◌-◌, ◌<◌, ◌≤◌}
use mathlib.Core.Path.{◌≡◌, refl, sym, ◌∙◌}
use mathlib.Core.Bool.{Bool, true, false, not, ◌&&◌, ◌||◌, and-true, true≢false}
use mathlib.Core.List.{List, [], ◌∷◌}
use mathlib.Core.Logic.{◌⊎◌, inl, inr, ⊎_elim}
use native.Mathlib.Omega.{arith}
use borrow.Author.Tests.{eqb-true, eqb-false, ltb-true, ltb-false, lt-ltb, le-ltb, lt-leb, le-leb}
use lib.Dec.{eqb, ltb, leb}
use Rattle.kinds.proofs.Refusing.{or-false}
use Rattle.lists.specs.Lists.{holding}

-- ---- cases

-- a test has one of two outcomes
pub true-or-false : (b : Bool) → (b ≡ true) ⊎ (b ≡ false)
true-or-false true = inl refl
true-or-false false = inr refl

-- two numbers are equal or not
pub same_or_not : (a b : ℕ) → (a ≡ b) ⊎ (a ≡ b → ⊥)
same_or_not a b = go (eqb a b) refl
  where
    go : (t : Bool) → eqb a b ≡ t → (a ≡ b) ⊎ (a ≡ b → ⊥)
    go true e = inl (eqb-true a b e)
    go false e = inr (eqb-false a b e)

-- a number is below another or not
pub below_or_not : (a b : ℕ) → (a < b) ⊎ (b ≤ a)
below_or_not a b = go (ltb a b) refl
  where
    go : (t : Bool) → ltb a b ≡ t → (a < b) ⊎ (b ≤ a)
    go true e = inl (ltb-true a b e)
    go false e = inr (ltb-false a b e)

-- ---- orders

-- below is not at least
pub ltb-not : (a b : ℕ) → ltb a b ≡ not (leb b a)
ltb-not a b =
    ⊎_elim
    (λ h. cc (lt-ltb a b h, lt-leb b a h))
    (λ h. cc (le-ltb a b h, le-leb b a h))
    (below_or_not a b)

-- a sum is below n where a part is below what is left of n
pub ltb-shift : (k a n : ℕ) → ltb (k + a) n ≡ ltb a (n - k)
ltb-shift k a n =
    ⊎_elim
    (λ h. lt-ltb (k + a) n h ∙ sym (lt-ltb a (n - k) (omega arith)))
    (λ h. le-ltb (k + a) n h ∙ sym (le-ltb a (n - k) (omega arith)))
    (below_or_not (k + a) n)

-- ---- both, either

-- both hold
pub and_intro : (a b : Bool) → a ≡ true → b ≡ true → (a && b) ≡ true
and_intro a b p q = rw (p, q)

-- the first of two that hold
pub and_left : (a b : Bool) → (a && b) ≡ true → a ≡ true
and_left true b h = refl
and_left false b h = h

-- the second of two that hold
pub and_right : (a b : Bool) → (a && b) ≡ true → b ≡ true
and_right true b h = h
and_right false b h = absurd (true≢false (sym h))

-- one of the two holds
pub or_cases : (a b : Bool) → (a || b) ≡ true → (a ≡ true) ⊎ (b ≡ true)
or_cases true b h = inl refl
or_cases false b h = inr h

-- where neither holds, the first does not
pub or_left : (a b : Bool) → (a || b) ≡ false → a ≡ false
or_left a b h = (or-false a b h).0

-- where neither holds, the second does not
pub or_right : (a b : Bool) → (a || b) ≡ false → b ≡ false
or_right a b h = (or-false a b h).1

-- ---- clauses

-- an empty list of clauses holds
pub holding-nil : holding [] ≡ true
unfolding holding
holding-nil = refl

-- a clause before others
pub holding-cons : (b : Bool) (bs : List Bool) → b ≡ true → holding bs ≡ true → holding (b ∷ bs) ≡ true
unfolding holding
holding-cons b bs p q = and_intro b (holding bs) p q

-- the first clause holds
pub holding-head : (b : Bool) (bs : List Bool) → holding (b ∷ bs) ≡ true → b ≡ true
unfolding holding
holding-head b bs h = and_left b (holding bs) h

-- the other clauses hold
pub holding-tail : (b : Bool) (bs : List Bool) → holding (b ∷ bs) ≡ true → holding bs ≡ true
unfolding holding
holding-tail b bs h = and_right b (holding bs) h

-- code that tests clause after clause: the first clause left fails, passes, or is the last
pub holding-fails : {w : Bool} (b : Bool) (bs : List Bool) → w ≡ holding (b ∷ bs) → b ≡ false → false ≡ w
unfolding holding
holding-fails b bs e f = sym (e ∙ rw f)

pub holding-passes : {w : Bool} (b : Bool) (bs : List Bool) → w ≡ holding (b ∷ bs) → b ≡ true → w ≡ holding bs
unfolding holding
holding-passes b bs e t = e ∙ rw t

pub holding-last : {w : Bool} (b : Bool) → w ≡ holding (b ∷ []) → b ≡ w
unfolding holding
holding-last b e = sym (e ∙ and-true b)
