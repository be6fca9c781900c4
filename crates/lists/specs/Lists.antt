-- What contracts and rules say of lists: filters, tests of every and of some element, the first that passes a test, tables of a function.
use Rattle.std.specs.Prelude.{ℕ, zero, suc, Bool, true, false, cond, not, ◌&&◌, ◌||◌, List, [], ◌∷◌, eqb, ltb}

module _ {A : Type 0} where
  unfoldable pub keep : (A → Bool) → List A → List A
  keep p [] = []
  keep p (x ∷ xs) = cond (p x) (x ∷ keep p xs) (keep p xs)

  unfoldable pub some : (A → Bool) → List A → Bool
  some p [] = false
  some p (x ∷ xs) = p x || some p xs

  unfoldable pub every : (A → Bool) → List A → Bool
  every p [] = true
  every p (x ∷ xs) = p x && every p xs

  -- the first that passes p, and d where none does
  unfoldable pub first_or : A → (A → Bool) → List A → A
  first_or d p [] = d
  first_or d p (x ∷ xs) = cond (p x) x (first_or d p xs)

  -- the index of the first that passes p, and the length where none does
  unfoldable pub first_index : (A → Bool) → List A → ℕ
  first_index p [] = zero
  first_index p (x ∷ xs) = cond (p x) zero (suc (first_index p xs))

  -- no two are the same
  unfoldable pub distinct : (A → A → Bool) → List A → Bool
  distinct same [] = true
  distinct same (x ∷ xs) = not (some (same x) xs) && distinct same xs

  -- no element of the first list is the same as one of the second
  abbrev pub apart : (A → A → Bool) → List A → List A → Bool
  apart same xs ys = every (λ x. not (some (same x) ys)) xs

  -- f 0, f 1, .., so many as n
  unfoldable pub tabulate : ℕ → (ℕ → A) → List A
  tabulate zero f = []
  tabulate (suc n) f = f zero ∷ tabulate n (λ i. f (suc i))

  -- the list without what stands at k
  unfoldable pub delete_at : ℕ → List A → List A
  delete_at k [] = []
  delete_at zero (x ∷ xs) = xs
  delete_at (suc k) (x ∷ xs) = x ∷ delete_at k xs

abbrev pub among : List ℕ → ℕ → Bool
among xs x = some (eqb x) xs

-- no number is 0
abbrev pub nonzero : List ℕ → Bool
nonzero ns = every (λ (n : ℕ). not (eqb n 0)) ns

-- every clause of a list holds
unfoldable pub holding : List Bool → Bool
holding [] = true
holding (b ∷ bs) = b && holding bs

-- the index that stands at j once index k is taken out
abbrev pub skip : ℕ → ℕ → ℕ
skip k j = cond (ltb j k) j (suc j)
