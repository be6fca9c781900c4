-- Accounts and the counts that they leave.
use Prim.Native.Nat.{ℕ, zero, suc, ◌+◌, ◌-◌, min}
use mathlib.Core.Path.{◌≡◌, refl, sym, ap, ◌∙◌}
use mathlib.Core.Bool.{Bool, true, false, not}
use mathlib.Core.List.{List, [], ◌∷◌, map}
use mathlib.Core.Logic.{⊎_elim}
use native.Mathlib.Omega.{arith}
use borrow.Author.Tests.{eq-eqb, ne_eqb, le-leb, lt-leb, leb-true}
use lib.ListN.{get_or, set}
use lib.Dec.{eqb, leb}
use Rattle.lists.specs.Lists.{some, every}
use Rattle.lists.proofs.Tests.{below_or_not}
use Rattle.lists.proofs.Lists.{every-at-or, every-ext, every_set, some-map, some-not, map-set}
use Rattle.history.specs.History.{Account, remaining, no_account, granting, taking, taking_all}
use Rattle.history.proofs.Lives.{covered}

-- what is left of account n
pub remaining-at : (n : ℕ) (xs : List Account) → get_or (map remaining xs) n 0 ≡ remaining (get_or xs n no_account)
remaining-at n [] = refl
remaining-at zero (a ∷ xs) = refl
remaining-at (suc n) (a ∷ xs) = remaining-at n xs

-- no count is left exactly if each account is used up
pub none_left : (xs : List Account) → some (λ (n : ℕ). not (eqb n 0)) (map remaining xs) ≡ not (every (λ (a : Account). leb a.granted a.taken) xs)
none_left xs =
    some-map _ remaining xs ∙ some-not _ xs ∙ ap not (every-ext _ _ (λ a. twice (eqb (remaining a) 0) ∙ less a.granted a.taken) xs)
  where
    twice : (b : Bool) → not (not b) ≡ b
    twice true = refl
    twice false = refl

    less : (g t : ℕ) → eqb (g - t) 0 ≡ leb g t
    less g t =
        ⊎_elim
        (λ b. ne_eqb (g - t) 0 (omega arith) ∙ sym (lt-leb g t b))
        (λ b. eq-eqb (g - t) 0 (omega arith) ∙ sym (le-leb g t b))
        (below_or_not t g)

-- a change of an account that changes what is left by g, and takes no more than was granted
pub record Moves (f : Account → Account) (g : ℕ → ℕ) : Type 0 where
  pub left : (a : Account) → covered a ≡ true → remaining (f a) ≡ g (remaining a)
  pub bounds : (a : Account) → covered a ≡ true → covered (f a) ≡ true

-- account k so changed
pub moved-counts : {f : Account → Account} {g : ℕ → ℕ} → Moves f g → (k : ℕ) (xs : List Account) → every covered xs ≡ true
    → map remaining (set xs k (f (get_or xs k no_account))) ≡ set (map remaining xs) k (g (get_or (map remaining xs) k 0))
moved-counts {f} {g} m k xs b =
    cc (map-set remaining xs k (f (get_or xs k no_account)), m.left (get_or xs k no_account) (every-at-or covered xs no_account k refl b), remaining-at k xs)

pub moved-bounds : {f : Account → Account} {g : ℕ → ℕ} → Moves f g → (k : ℕ) (xs : List Account) → every covered xs ≡ true → every covered (set xs k (f (get_or xs k no_account))) ≡ true
moved-bounds {f} m k xs b = every_set covered xs k (f (get_or xs k no_account)) b (m.bounds (get_or xs k no_account) (every-at-or covered xs no_account k refl b))

-- ---- the changes

pub grants : (n : ℕ) → Moves (granting n) (λ m. m + n)
grants n =
    record {
      left = λ a b. let l = leb-true a.taken a.granted b in let q : a.granted + n - a.taken ≡ a.granted - a.taken + n = omega arith in q;
      bounds = λ a b. let l = leb-true a.taken a.granted b in le-leb a.taken (a.granted + n) (omega arith);
    }

pub takes : (n : ℕ) → Moves (taking n) (λ m. m - n)
takes n =
    record {
      left = λ a b. let l = leb-true a.taken a.granted b in let q : a.granted - (a.taken + min n (a.granted - a.taken)) ≡ a.granted - a.taken - n = omega arith in q;
      bounds = λ a b. let l = leb-true a.taken a.granted b in le-leb (a.taken + min n (a.granted - a.taken)) a.granted (omega arith);
    }

pub takes_all : Moves taking_all (λ m. 0)
takes_all =
    record {
      left = λ a b. (takes (remaining a)).left a b ∙ (let q : a.granted - a.taken - (a.granted - a.taken) ≡ 0 = omega arith in q);
      bounds = λ a b. (takes (remaining a)).bounds a b;
    }
