-- Loops over a column or a table: what the elements from i on say is what the whole says.
use Rattle.std.proofs.Common.{◌≡◌, ℕ, ◌+◌, ◌-◌, ◌<◌, ◌≤◌, Bool, true, false, min, ⊎_elim, List, [], ◌∷◌}
use Rattle.std.proofs.Common.{length, get_or, take, drop, sym, ap, ◌∙◌, add-one, arith, length-drop, drop_of_length-le, take_all, drop-cons}
use Rattle.lists.specs.Lists.{every, tabulate}
use Rattle.lists.proofs.Tests.{below_or_not}
use Rattle.lists.proofs.Lists.{length-tabulate, get_d_tabulate}

-- ---- the elements from i on

-- the first of them, and the rest
pub column-step : {A : Type 0} (xs : List A) (d : A) (i : ℕ) → i < length xs → drop i xs ≡ get_or xs i d ∷ drop (i + 1) xs
column-step xs d i h = rw (add-one i) (drop-cons xs i d h)

-- going backwards, the one before the elements from n on
pub last_step : {A : Type 0} (xs : List A) (d : A) (n : ℕ) → 0 < n → n ≤ length xs → drop (n - 1) xs ≡ get_or xs (n - 1) d ∷ drop n xs
last_step xs d n p h = let e : n - 1 + 1 ≡ n = omega arith in rw e at (column-step xs d (n - 1) (omega arith))

-- none is left
pub column-end : {A : Type 0} (xs : List A) (i : ℕ) → length xs ≤ i → drop i xs ≡ []
column-end xs i h = drop_of_length-le xs h

-- the part of a column that code lends as its tail
pub tail-part : {A : Type 0} (k : ℕ) (xs : List A) → take (length xs - k) (drop k xs) ≡ drop k xs
tail-part k xs = take_all (length xs - k) (drop k xs) (simp length-drop (omega arith))

-- the same where k may be past the end
pub tail-cut : {A : Type 0} (k : ℕ) (xs : List A) → take (length xs - min k (length xs)) (drop (min k (length xs)) xs) ≡ drop k xs
tail-cut k xs =
    tail-part (min k (length xs)) xs
    ∙ ⊎_elim
    (λ h. ap (λ (i : ℕ). drop i xs) (omega arith))
    (λ h. column-end xs (min k (length xs)) (omega arith) ∙ sym (column-end xs k (omega arith)))
    (below_or_not k (length xs))

-- the first of a table's from i on, and the rest
pub table_step : {A : Type 0} (n : ℕ) (f : ℕ → A) (i : ℕ) → i < n → drop i (tabulate n f) ≡ f i ∷ drop (i + 1) (tabulate n f)
table_step {A} n f i h =
    column-step (tabulate n f) (f i) i (rw length-tabulate h)
    ∙ ap (λ (x : A). x ∷ drop (i + 1) (tabulate n f)) (get_d_tabulate n f (f i) i h)

-- none is left of a table
pub table-end : {A : Type 0} (n : ℕ) (f : ℕ → A) (i : ℕ) → n ≤ i → drop i (tabulate n f) ≡ []
table-end n f i h = column-end (tabulate n f) i (rw length-tabulate h)

-- the outcome of a test of r, where r is a
pub told : {A B : Type 0} (f : A → B) {a r : A} {t v : B} → r ≡ a → t ≡ f r → t ≡ v → f a ≡ v
told f q e o = ap f (sym q) ∙ sym e ∙ o

-- ys is left, x is its first and xs the rest; the first passes or fails, or nothing is left
module _ {A : Type 0} {x : A} {xs ys : List A} (e : ys ≡ x ∷ xs) where
  module _ {w : Bool} (p : A → Bool) (h : w ≡ every p ys) where
    -- the first passes
    pub every-passes : p x ≡ true → w ≡ every p xs
    unfolding every
    every-passes t = h ∙ rw (e, t)

    -- the first fails
    pub every-fails : p x ≡ false → false ≡ w
    unfolding every
    every-fails f = sym (h ∙ rw (e, f))

module _ {A : Type 0} {ys : List A} (e : ys ≡ []) where
  -- every element has passed
  pub every-end : {w : Bool} (p : A → Bool) → w ≡ every p ys → true ≡ w
  unfolding every
  every-end p h = sym (h ∙ rw e)
