-- Counts in a list, of which one is changed.
use Prim.Native.Nat.{ℕ, zero, suc, ◌+◌}
use mathlib.Core.Path.{◌≡◌, ap, ◌∙◌}
use mathlib.Core.Bool.{Bool, true, false, not, ◌||◌, or-true}
use mathlib.Core.List.{List, [], ◌∷◌}
use mathlib.Core.Logic.{⊎_elim}
use native.Mathlib.Omega.{arith}
use borrow.Author.Tests.{ne_eqb, eqb-false, not-true}
use lib.ListN.{get_or, set, replicate}
use lib.Dec.{eqb}
use Rattle.lists.specs.Lists.{some}
use Rattle.lists.proofs.Tests.{or_cases}
use Rattle.rules.specs.Entries.{Interface, at_count}
use Rattle.rules.specs.Sound.{held}
use Rattle.rules.specs.Rules.{entered_counts, increased}

-- where one that passes stays so, one still passes
pub some-change : {A : Type 0} (p : A → Bool) (f : A → A) (d : A) → ((x : A) → p x ≡ true → p (f x) ≡ true)
    → (k : ℕ) (xs : List A) → some p xs ≡ true → some p (set xs k (f (get_or xs k d))) ≡ true
unfolding some
some-change p f d c k [] h = h
some-change p f d c zero (x ∷ xs) h =
    ⊎_elim (λ a. ap (λ (b : Bool). b || some p xs) (c x a)) (λ a. ap (λ (b : Bool). p (f x) || b) a ∙ or-true (p (f x))) (or_cases (p x) (some p xs) h)
some-change p f d c (suc k) (x ∷ xs) h =
    ⊎_elim
    (λ a. ap (λ (b : Bool). b || some p (set xs k (f (get_or xs k d)))) a)
    (λ a. ap (λ (b : Bool). p x || b) (some-change p f d c k xs a) ∙ or-true (p x))
    (or_cases (p x) (some p xs) h)

-- a count stays nonzero where it grows
grown : (n a : ℕ) → not (eqb a 0) ≡ true → not (eqb (a + n) 0) ≡ true
grown n a h = ap not (ne_eqb (a + n) 0 (λ e. eqb-false a 0 (not-true (eqb a 0) h) (omega arith)))

-- an interface that is held is so once counts have grown
pub increased-held : (c p q : ℕ) (r : Interface) → held r ≡ true → held (increased c p q r) ≡ true
increased-held c p q r h =
    some-change (λ (n : ℕ). not (eqb n 0)) (λ (n : ℕ). n + q) 0 (grown q) (suc c) (at_count 0 (λ (n : ℕ). n + p) r).counts
    (some-change (λ (n : ℕ). not (eqb n 0)) (λ (n : ℕ). n + p) 0 (grown p) 0 r.counts h)

-- an interface is entered with a nonzero count
pub entered-held : (n : ℕ) → eqb n 0 ≡ false → some (λ (m : ℕ). not (eqb m 0)) (entered_counts n) ≡ true
unfolding some
entered-held n h = ap (λ (b : Bool). not b || some (λ (m : ℕ). not (eqb m 0)) (replicate 8 0)) h
