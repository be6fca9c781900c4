-- Laws of the first element that passes a test.
use Prim.Native.Nat.{ℕ, zero, suc, ◌+◌, ◌<◌, ◌≤◌, zero-le}
use mathlib.Core.Path.{◌≡◌, refl, sym, ap, ◌∙◌}
use mathlib.Core.Bool.{Bool, true, false, true≢false}
use mathlib.Core.List.{List, [], ◌∷◌, ◌++◌, map}
use mathlib.Core.Logic.{⊎_elim}
use native.Mathlib.Omega.{arith}
use native.Mathlib.Nat.{zero-add}
use borrow.Author.Tests.{lt-ltb}
use lib.ListN.{get_or, length, length-map}
use lib.Dec.{ltb, leb-suc-suc}
use Rattle.lists.specs.Lists.{some, first_or, first_index}
use Rattle.lists.proofs.Tests.{true-or-false, below_or_not, or_left, or_right}

module _ {A : Type 0} (p : A → Bool) where
  -- of no elements
  pub first-nil : first_index p [] ≡ zero
  unfolding first_index
  first-nil = refl

  -- the first element passes
  pub first-here : (x : A) (xs : List A) → p x ≡ true → first_index p (x ∷ xs) ≡ zero
  unfolding first_index
  first-here x xs t = rw t

  -- the first element fails
  pub first_past : (x : A) (xs : List A) → p x ≡ false → first_index p (x ∷ xs) ≡ suc (first_index p xs)
  unfolding first_index
  first_past x xs f = rw f

  -- the index is at most the length
  pub first-le : (xs : List A) → first_index p xs ≤ length xs
  first-le [] = rw first-nil zero-le
  first-le (x ∷ xs) =
      ⊎_elim
      (λ t. rw (first-here x xs t) zero-le)
      (λ f. let h = first-le xs in rw (first_past x xs f) (omega arith))
      (true-or-false (p x))

  -- the index is below the length where some element passes
  pub some_first : (xs : List A) → ltb (first_index p xs) (length xs) ≡ some p xs
  unfolding some
  some_first [] = rw first-nil
  some_first (x ∷ xs) =
      ⊎_elim
      (λ t. rw (first-here x xs t, t) (lt-ltb zero (suc (length xs)) (omega arith)))
      (λ f. rw (first_past x xs f, f, leb-suc-suc) (some_first xs))
      (true-or-false (p x))

  -- the first that passes, by its index
  pub first-or : (d : A) (xs : List A) → first_or d p xs ≡ get_or xs (first_index p xs) d
  unfolding first_or first_index
  first-or d [] = refl
  first-or d (x ∷ xs) = ⊎_elim (λ t. rw t) (λ f. rw f (first-or d xs)) (true-or-false (p x))

  -- the element there passes
  pub first-at : (d : A) (xs : List A) → first_index p xs < length xs → p (get_or xs (first_index p xs) d) ≡ true
  first-at d [] h = absurd (omega arith)
  first-at d (x ∷ xs) h =
      ⊎_elim
      (λ t. rw (first-here x xs t) t)
      (λ f. let e = first_past x xs f in rw e (first-at d xs (omega arith)))
      (true-or-false (p x))

  -- the elements before fail
  pub first-before : (d : A) (xs : List A) (j : ℕ) → j < first_index p xs → p (get_or xs j d) ≡ false
  first-before d [] j h = let z = first-nil in absurd (omega arith)
  first-before d (x ∷ xs) zero h =
      ⊎_elim (λ t. let z = first-here x xs t in absurd (omega arith)) (λ f. f) (true-or-false (p x))
  first-before d (x ∷ xs) (suc j) h =
      ⊎_elim
      (λ t. let z = first-here x xs t in absurd (omega arith))
      (λ f. let z = first_past x xs f in first-before d xs j (omega arith))
      (true-or-false (p x))

  -- the one number with these three properties
  pub first-unique : (d : A) (xs : List A) (n : ℕ) → n ≤ length xs → ((j : ℕ) → j < n → p (get_or xs j d) ≡ false) → (n < length xs → p (get_or xs n d) ≡ true) → first_index p xs ≡ n
  first-unique d xs n h b a =
      let l = first-le xs in
      ⊎_elim
      (λ lt. absurd (true≢false (sym (first-at d xs (omega arith)) ∙ b (first_index p xs) lt)))
      (λ ge. ⊎_elim
      (λ lt. absurd (true≢false (sym (a (omega arith)) ∙ first-before d xs n lt)))
      (λ le. omega arith)
      (below_or_not n (first_index p xs)))
      (below_or_not (first_index p xs) n)

  -- where the test passes at n alone
  pub first-only : (d : A) (xs : List A) (n : ℕ) → n < length xs → p (get_or xs n d) ≡ true → ((j : ℕ) → j < length xs → p (get_or xs j d) ≡ true → j ≡ n) → first_index p xs ≡ n
  first-only d xs n h t u =
      first-unique d xs n (omega arith)
      (λ j b. ⊎_elim (λ v. let e = u j (omega arith) v in absurd (omega arith)) (λ f. f) (true-or-false (p (get_or xs j d))))
      (λ b. t)

  -- of the images
  pub first-map : {B : Type 0} (g : B → A) (xs : List B) → first_index p (map g xs) ≡ first_index (λ x. p (g x)) xs
  unfolding first_index
  first-map g [] = refl
  first-map g (x ∷ xs) = rw (first-map g xs)

  -- of two lists one after the other, where some of the first passes
  pub first-left : (xs ys : List A) → some p xs ≡ true → first_index p (xs ++ ys) ≡ first_index p xs
  unfolding some first_index
  first-left [] ys e = absurd (true≢false (sym e))
  first-left (x ∷ xs) ys e = ⊎_elim (λ t. rw t) (λ f. rw f (ap suc (first-left xs ys (rw f at e)))) (true-or-false (p x))

  -- of two lists one after the other, where none of the first passes
  pub first-right : (xs ys : List A) → some p xs ≡ false → first_index p (xs ++ ys) ≡ length xs + first_index p ys
  unfolding some first_index
  first-right [] ys e = sym (zero-add (first_index p ys))
  first-right (x ∷ xs) ys e =
      rw (or_left (p x) (some p xs) e)
      (let r = first-right xs ys (or_right (p x) (some p xs) e) in omega arith)

-- ---- entries by a field: whether one has it, and the one that has it

module _ {A B : Type 0} (p : B → Bool) (f : A → B) where
  pub some-index : (xs : List A) → some p (map f xs) ≡ ltb (first_index p (map f xs)) (length xs)
  some-index xs = cc (some_first p (map f xs), length-map xs f)

  pub entry-index : (d : A) (xs : List A) → first_or d (λ x. p (f x)) xs ≡ get_or xs (first_index p (map f xs)) d
  entry-index d xs = cc (first-or (λ x. p (f x)) d xs, first-map p f xs)
