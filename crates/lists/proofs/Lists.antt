-- Laws of filters, of tests of every and of some element, of tables, and of what is taken out by its index.
use Prim.Native.Nat.{ℕ, zero, suc, ◌+◌, ◌-◌, ◌<◌, ◌≤◌, zero-le}
use mathlib.Core.Path.{◌≡◌, refl, sym, ap, ◌∙◌}
use mathlib.Core.Bool.{Bool, true, false, cond, not, ◌&&◌, ◌||◌, and_assoc, and_comm, and-true, and-false, or_assoc, or-true, or-false, true≢false}
use mathlib.Core.List.{List, [], ◌∷◌, ◌++◌, map, map-id}
use mathlib.Core.Logic.{⊎_elim}
use native.Mathlib.Omega.{arith}
use borrow.Author.Tests.{lt-ltb, le-ltb, not-true, not-false}
use lib.ListN.{get_or, length, take, drop, set, length-drop, length-map}
use lib.Seq.{take-nil, ext_get_or, length-take-le, get_or-take, get_or-drop}
use Rattle.kinds.proofs.Refusing.{by-test}
use Rattle.lists.specs.Lists.{keep, some, every, tabulate, delete_at, skip}
use Rattle.lists.proofs.Tests.{true-or-false, below_or_not, and_intro, and_left, and_right, or_cases, or_left, or_right}

-- ---- every

module _ {A : Type 0} (p : A → Bool) where
  -- of two lists one after the other
  pub every_append : (xs ys : List A) → every p (xs ++ ys) ≡ (every p xs && every p ys)
  unfolding every
  every_append [] ys = refl
  every_append (x ∷ xs) ys = rw (every_append xs ys) (sym (and_assoc (p x) (every p xs) (every p ys)))

  -- of one element
  pub every_one : (x : A) → every p (x ∷ []) ≡ p x
  unfolding every
  every_one x = and-true (p x)

  -- of no elements
  pub every-nil : every p [] ≡ true
  unfolding every
  every-nil = refl

  -- of a list with a last element
  pub every-snoc : (xs : List A) (x : A) → every p (xs ++ (x ∷ [])) ≡ (every p xs && p x)
  every-snoc xs x = cc (every_append xs (x ∷ []), every_one x)

  -- of the images
  pub every_map : {B : Type 0} (g : B → A) (xs : List B) → every p (map g xs) ≡ every (λ x. p (g x)) xs
  unfolding every
  every_map g [] = refl
  every_map g (x ∷ xs) = ap (λ (b : Bool). p (g x) && b) (every_map g xs)

  -- the element at an index passes
  pub every-at : (xs : List A) (d : A) (j : ℕ) → j < length xs → every p xs ≡ true → p (get_or xs j d) ≡ true
  unfolding every
  every-at [] d j h e = absurd (omega arith)
  every-at (x ∷ xs) d zero h e = and_left (p x) (every p xs) e
  every-at (x ∷ xs) d (suc j) h e = every-at xs d j (omega arith) (and_right (p x) (every p xs) e)

  -- the same at any index, where the default passes too
  pub every-at-or : (xs : List A) (d : A) (j : ℕ) → p d ≡ true → every p xs ≡ true → p (get_or xs j d) ≡ true
  unfolding every
  every-at-or [] d j t e = t
  every-at-or (x ∷ xs) d zero t e = and_left (p x) (every p xs) e
  every-at-or (x ∷ xs) d (suc j) t e = every-at-or xs d j t (and_right (p x) (every p xs) e)

  -- each index passes, so every element does
  pub every-from-at : (d : A) (xs : List A) → ((j : ℕ) → j < length xs → p (get_or xs j d) ≡ true) → every p xs ≡ true
  unfolding every
  every-from-at d [] h = refl
  every-from-at d (x ∷ xs) h =
      and_intro (p x) (every p xs) (h zero (omega arith)) (every-from-at d xs (λ j b. h (suc j) (omega arith)))

  -- an element that fails
  pub every-find : (d : A) (xs : List A) → every p xs ≡ false → (j : ℕ) × (j < length xs) × (p (get_or xs j d) ≡ false)
  unfolding every
  every-find d [] e = absurd (true≢false e)
  every-find d (x ∷ xs) e =
      ⊎_elim
      (λ t. let r = every-find d xs (rw t at e) in (suc r.0, omega arith, r.2))
      (λ f. (zero, omega arith, f))
      (true-or-false (p x))

  -- of the kept elements
  pub every-keep : (q : A → Bool) (xs : List A) → every p (keep q xs) ≡ every (λ x. not (q x) || p x) xs
  unfolding every keep
  every-keep q [] = refl
  every-keep q (x ∷ xs) =
      ⊎_elim
      (λ t. rw t (ap (λ (b : Bool). p x && b) (every-keep q xs)))
      (λ f. rw f (every-keep q xs))
      (true-or-false (q x))

module _ {A : Type 0} where
  -- by the same test
  pub every-ext : (p q : A → Bool) → ((x : A) → p x ≡ q x) → (xs : List A) → every p xs ≡ every q xs
  every-ext p q h xs = λ k. every (λ x. h x k) xs

  -- by the same test
  pub some-ext : (p q : A → Bool) → ((x : A) → p x ≡ q x) → (xs : List A) → some p xs ≡ some q xs
  some-ext p q h xs = λ k. some (λ x. h x k) xs

  -- by the same test
  pub keep-ext : (p q : A → Bool) → ((x : A) → p x ≡ q x) → (xs : List A) → keep p xs ≡ keep q xs
  keep-ext p q h xs = λ k. keep (λ x. h x k) xs

  -- by the same function
  pub map-ext : {B : Type 0} (f g : A → B) → ((x : A) → f x ≡ g x) → (xs : List A) → map f xs ≡ map g xs
  map-ext f g h xs = λ k. map (λ x. h x k) xs

-- two functions of a list's elements that agree where r passes, on a list that all of r passes
module _ {A B : Type 0} (r : A → Bool) (f g : A → B) (h : (x : A) → r x ≡ true → f x ≡ g x) where
  -- the images are the same
  pub map-ext-on : (xs : List A) → every r xs ≡ true → map f xs ≡ map g xs
  unfolding every
  map-ext-on [] e = refl
  map-ext-on (x ∷ xs) e = λ k. h x (and_left (r x) (every r xs) e) k ∷ map-ext-on xs (and_right (r x) (every r xs) e) k

module _ {A : Type 0} (r p q : A → Bool) where
  module _ (h : (x : A) → r x ≡ true → p x ≡ q x) where
    -- the test of every element is the same
    pub every-ext-on : (xs : List A) → every r xs ≡ true → every p xs ≡ every q xs
    unfolding every
    every-ext-on [] e = refl
    every-ext-on (x ∷ xs) e = λ k. h x (and_left (r x) (every r xs) e) k && every-ext-on xs (and_right (r x) (every r xs) e) k

    -- the test of some element is the same
    pub some-ext-on : (xs : List A) → every r xs ≡ true → some p xs ≡ some q xs
    unfolding every some
    some-ext-on [] e = refl
    some-ext-on (x ∷ xs) e = λ k. h x (and_left (r x) (every r xs) e) k || some-ext-on xs (and_right (r x) (every r xs) e) k

    -- the kept elements are the same
    pub keep-ext-on : (xs : List A) → every r xs ≡ true → keep p xs ≡ keep q xs
    unfolding every keep
    keep-ext-on [] e = refl
    keep-ext-on (x ∷ xs) e =
        let tail = keep-ext-on xs (and_right (r x) (every r xs) e) in
        λ k. cond (h x (and_left (r x) (every r xs) e) k) (x ∷ tail k) (tail k)

  -- a weaker test, under r
  pub every-mono-on : ((x : A) → r x ≡ true → p x ≡ true → q x ≡ true) → (xs : List A) → every r xs ≡ true → every p xs ≡ true → every q xs ≡ true
  unfolding every
  every-mono-on f [] e h = refl
  every-mono-on f (x ∷ xs) e h =
      and_intro (q x) (every q xs)
      (f x (and_left (r x) (every r xs) e) (and_left (p x) (every p xs) h))
      (every-mono-on f xs (and_right (r x) (every r xs) e) (and_right (p x) (every p xs) h))

module _ {A : Type 0} (p q : A → Bool) where
  -- a weaker test
  pub every-mono : ((x : A) → p x ≡ true → q x ≡ true) → (xs : List A) → every p xs ≡ true → every q xs ≡ true
  every-mono f xs h = every-mono-on p p q (λ x t u. f x t) xs h h

  -- what holds of every element holds of every kept one
  pub every-kept : (xs : List A) → every p xs ≡ true → every p (keep q xs) ≡ true
  every-kept xs h = cc (every-keep p q xs, every-mono-on p p (λ x. not (q x) || p x) (λ x t u. rw t (or-true (not (q x)))) xs h h)

-- of two tests, of which the first passes only what the second does, the first decides
implied : {A : Type 0} (p q : A → Bool) → ((x : A) → p x ≡ true → q x ≡ true) → (x : A) → (q x && p x) ≡ p x
implied p q h x = ⊎_elim (λ t. rw (h x t, t)) (λ f. rw f (and-false (q x))) (true-or-false (p x))

-- ---- some

module _ {A : Type 0} (p : A → Bool) where
  -- of two lists one after the other
  pub some-append : (xs ys : List A) → some p (xs ++ ys) ≡ (some p xs || some p ys)
  unfolding some
  some-append [] ys = refl
  some-append (x ∷ xs) ys = rw (some-append xs ys) (sym (or_assoc (p x) (some p xs) (some p ys)))

  -- of one element
  pub some_one : (x : A) → some p (x ∷ []) ≡ p x
  unfolding some
  some_one x = or-false (p x)

  -- of a first element and others
  pub some-cons : (x : A) (xs : List A) → some p (x ∷ xs) ≡ (p x || some p xs)
  unfolding some
  some-cons x xs = refl

  -- of a list with a last element
  pub some-snoc : (xs : List A) (x : A) → some p (xs ++ (x ∷ [])) ≡ (some p xs || p x)
  some-snoc xs x = cc (some-append xs (x ∷ []), some_one x)

  -- of the images
  pub some-map : {B : Type 0} (g : B → A) (xs : List B) → some p (map g xs) ≡ some (λ x. p (g x)) xs
  unfolding some
  some-map g [] = refl
  some-map g (x ∷ xs) = ap (λ (b : Bool). p (g x) || b) (some-map g xs)

  -- some passes where not every one fails
  pub some-not : (xs : List A) → some p xs ≡ not (every (λ x. not (p x)) xs)
  unfolding some every
  some-not [] = refl
  some-not (x ∷ xs) = ⊎_elim (λ t. rw t) (λ f. rw f (some-not xs)) (true-or-false (p x))

  -- an index passes, so some element does
  pub some_at : (xs : List A) (d : A) (j : ℕ) → j < length xs → p (get_or xs j d) ≡ true → some p xs ≡ true
  unfolding some
  some_at [] d j h t = absurd (omega arith)
  some_at (x ∷ xs) d zero h t = rw t
  some_at (x ∷ xs) d (suc j) h t = rw (some_at xs d j (omega arith) t) (or-true (p x))

  -- an element that passes
  pub some-find : (d : A) (xs : List A) → some p xs ≡ true → (j : ℕ) × (j < length xs) × (p (get_or xs j d) ≡ true)
  some-find d xs e =
      let r = every-find (λ x. not (p x)) d xs (not-true (every (λ x. not (p x)) xs) (sym (some-not xs) ∙ e)) in
      (r.0, r.1, not-false (p (get_or xs r.0 d)) r.2)

  -- none passes, so every one fails
  pub some-none : (xs : List A) → some p xs ≡ false → every (λ x. not (p x)) xs ≡ true
  some-none xs e = not-false (every (λ x. not (p x)) xs) (sym (some-not xs) ∙ e)

  -- every one fails, so none passes
  pub none-some : (xs : List A) → every (λ x. not (p x)) xs ≡ true → some p xs ≡ false
  none-some xs e = some-not xs ∙ ap not e

  -- of the kept elements
  pub some-keep : (q : A → Bool) (xs : List A) → some p (keep q xs) ≡ some (λ x. q x && p x) xs
  unfolding some keep
  some-keep q [] = refl
  some-keep q (x ∷ xs) =
      ⊎_elim
      (λ t. rw t (ap (λ (b : Bool). p x || b) (some-keep q xs)))
      (λ f. rw f (some-keep q xs))
      (true-or-false (q x))

  -- what no element passes no kept one does
  pub some-kept-none : (q : A → Bool) (xs : List A) → some p xs ≡ false → some p (keep q xs) ≡ false
  some-kept-none q xs e = none-some (keep q xs) (every-kept (λ x. not (p x)) q xs (some-none xs e))

-- keeping what q passes loses nothing that p passes
pub some-kept : {A : Type 0} (p q : A → Bool) → ((x : A) → p x ≡ true → q x ≡ true) → (xs : List A) → some p (keep q xs) ≡ some p xs
some-kept p q h xs = some-keep p q xs ∙ some-ext (λ x. q x && p x) p (implied p q h) xs

-- a weaker test
pub some_mono : {A : Type 0} (p q : A → Bool) → ((x : A) → p x ≡ true → q x ≡ true) → (xs : List A) → some p xs ≡ true → some q xs ≡ true
unfolding some
some_mono p q f [] h = h
some_mono p q f (x ∷ xs) h =
    ⊎_elim (λ t. rw (f x t)) (λ t. rw (some_mono p q f xs t) (or-true (q x))) (or_cases (p x) (some p xs) h)

-- ---- keep

module _ {A : Type 0} (p : A → Bool) where
  -- of no elements
  pub keep-nil : keep p [] ≡ []
  unfolding keep
  keep-nil = refl

  -- the first passes
  pub keep-yes : (x : A) (xs : List A) → p x ≡ true → keep p (x ∷ xs) ≡ x ∷ keep p xs
  unfolding keep
  keep-yes x xs t = rw t

  -- the first fails
  pub keep-no : (x : A) (xs : List A) → p x ≡ false → keep p (x ∷ xs) ≡ keep p xs
  unfolding keep
  keep-no x xs f = rw f

  -- of two lists one after the other
  pub keep_append : (xs ys : List A) → keep p (xs ++ ys) ≡ keep p xs ++ keep p ys
  unfolding keep
  keep_append [] ys = refl
  keep_append (x ∷ xs) ys =
      ⊎_elim
      (λ t. rw t (ap (λ (l : List A). x ∷ l) (keep_append xs ys)))
      (λ f. rw f (keep_append xs ys))
      (true-or-false (p x))

  -- of a list with a last element
  pub keep_snoc : (xs : List A) (x : A) → keep p (xs ++ (x ∷ [])) ≡ keep p xs ++ cond (p x) (x ∷ []) []
  unfolding keep
  keep_snoc xs x = keep_append xs (x ∷ [])

  -- of the images
  pub keep-map : {B : Type 0} (g : B → A) (xs : List B) → keep p (map g xs) ≡ map g (keep (λ x. p (g x)) xs)
  unfolding keep
  keep-map g [] = refl
  keep-map g (x ∷ xs) =
      ⊎_elim
      (λ t. rw t (ap (λ (l : List A). g x ∷ l) (keep-map g xs)))
      (λ f. rw f (keep-map g xs))
      (true-or-false (p (g x)))

  -- every kept element passes
  pub keep-passes : (xs : List A) → every p (keep p xs) ≡ true
  unfolding every keep
  keep-passes [] = refl
  keep-passes (x ∷ xs) = ⊎_elim (λ t. rw t (rw t (keep-passes xs))) (λ f. rw f (keep-passes xs)) (true-or-false (p x))

  -- where every element passes, all are kept
  pub keep_all : (xs : List A) → every p xs ≡ true → keep p xs ≡ xs
  unfolding every keep
  keep_all [] e = refl
  keep_all (x ∷ xs) e =
      rw (and_left (p x) (every p xs) e) (ap (λ (l : List A). x ∷ l) (keep_all xs (and_right (p x) (every p xs) e)))

  -- where none passes, none is kept
  pub keep-none : (xs : List A) → some p xs ≡ false → keep p xs ≡ []
  unfolding some keep
  keep-none [] e = refl
  keep-none (x ∷ xs) e = rw (or_left (p x) (some p xs) e) (keep-none xs (or_right (p x) (some p xs) e))

  -- no more are kept than there are
  pub length-keep : (xs : List A) → length (keep p xs) ≤ length xs
  unfolding keep
  length-keep [] = zero-le
  length-keep (x ∷ xs) =
      let h = length-keep xs in
      ⊎_elim (λ t. rw t (omega arith)) (λ f. rw f (omega arith)) (true-or-false (p x))

module _ {A : Type 0} (p q : A → Bool) where
  -- two tests in turn are one
  pub keep-keep : (xs : List A) → keep p (keep q xs) ≡ keep (λ x. q x && p x) xs
  unfolding keep
  keep-keep [] = refl
  keep-keep (x ∷ xs) =
      let r = keep-keep xs in
      ⊎_elim (λ t. rw t (λ k. cond (p x) (x ∷ r k) (r k))) (λ f. rw f r) (true-or-false (q x))

-- the order of two tests is free
pub keep-comm : {A : Type 0} (p q : A → Bool) (xs : List A) → keep p (keep q xs) ≡ keep q (keep p xs)
keep-comm p q xs = keep-keep p q xs ∙ keep-ext (λ x. q x && p x) (λ x. p x && q x) (λ x. and_comm (q x) (p x)) xs ∙ sym (keep-keep q p xs)

-- a test that passes only what p passes
pub keep-within : {A : Type 0} (p q : A → Bool) → ((x : A) → q x ≡ true → p x ≡ true) → (xs : List A) → keep q (keep p xs) ≡ keep q xs
keep-within p q h xs = cc (keep-keep q p xs, keep-ext (λ x. p x && q x) q (implied q p h) xs)

-- ---- map

-- of two lists one after the other
pub map-append : {A B : Type 0} (f : A → B) (xs ys : List A) → map f (xs ++ ys) ≡ map f xs ++ map f ys
map-append f [] ys = refl
map-append {A} {B} f (x ∷ xs) ys = ap (λ (l : List B). f x ∷ l) (map-append f xs ys)

-- two functions in turn are one
pub map-map : {A B C : Type 0} (f : B → C) (g : A → B) (xs : List A) → map f (map g xs) ≡ map (λ x. f (g x)) xs
map-map f g [] = refl
map-map {A} {B} {C} f g (x ∷ xs) = ap (λ (l : List C). f (g x) ∷ l) (map-map f g xs)

-- the image at an index
pub get_d_map : {A B : Type 0} (f : A → B) (xs : List A) (d : A) (z : B) (j : ℕ) → j < length xs → get_or (map f xs) j z ≡ f (get_or xs j d)
get_d_map f [] d z j h = absurd (omega arith)
get_d_map f (x ∷ xs) d z zero h = refl
get_d_map f (x ∷ xs) d z (suc j) h = get_d_map f xs d z j (omega arith)

-- a change that f does not read
pub map-unread : {A B : Type 0} (f : A → B) (g : A → A) → ((x : A) → f (g x) ≡ f x) → (xs : List A) → map f (map g xs) ≡ map f xs
map-unread f g h xs = map-map f g xs ∙ map-ext (λ x. f (g x)) f h xs

-- a change of the elements that pass t
module _ {A : Type 0} (t : A → Bool) (g : A → A) where
  -- f does not read it
  pub map-unread-at : {B : Type 0} (f : A → B) → ((x : A) → f (g x) ≡ f x) → (xs : List A) → map f (map (λ x. cond (t x) (g x) x) xs) ≡ map f xs
  map-unread-at f h xs = map-unread f (λ x. cond (t x) (g x) x) (λ x. by-test (λ (y : A). f y ≡ f x) (t x) (g x) x (λ u. h x) (λ u. refl)) xs

  -- it keeps what passes p
  pub every-changed-at : (p : A → Bool) → ((x : A) → p x ≡ true → p (g x) ≡ true) → (xs : List A) → every p xs ≡ true → every p (map (λ x. cond (t x) (g x) x) xs) ≡ true
  every-changed-at p h xs e =
      cc (every_map p (λ x. cond (t x) (g x) x) xs, every-mono p (λ x. p (cond (t x) (g x) x)) (λ x v. by-test (λ (y : A). p y ≡ true) (t x) (g x) x (λ u. h x v) (λ u. v)) xs e)

-- a change that leaves each element that r passes
pub map-id-on : {A : Type 0} (r : A → Bool) (g : A → A) → ((x : A) → r x ≡ true → g x ≡ x) → (xs : List A) → every r xs ≡ true → map g xs ≡ xs
map-id-on r g h xs e = map-ext-on r g (λ x. x) h xs e ∙ map-id xs

-- ---- set

module _ {A : Type 0} where
  -- the images of a changed list
  pub map-set : {B : Type 0} (f : A → B) (xs : List A) (i : ℕ) (x : A) → map f (set xs i x) ≡ set (map f xs) i (f x)
  map-set f [] i x = refl
  map-set f (y ∷ xs) zero x = refl
  map-set {B} f (y ∷ xs) (suc i) x = ap (λ (l : List B). f y ∷ l) (map-set f xs i x)

  -- a changed list passes
  pub every_set : (p : A → Bool) (xs : List A) (i : ℕ) (x : A) → every p xs ≡ true → p x ≡ true → every p (set xs i x) ≡ true
  unfolding every
  every_set p [] i x e t = e
  every_set p (y ∷ xs) zero x e t = and_intro (p x) (every p xs) t (and_right (p y) (every p xs) e)
  every_set p (y ∷ xs) (suc i) x e t =
      and_intro (p y) (every p (set xs i x)) (and_left (p y) (every p xs) e) (every_set p xs i x (and_right (p y) (every p xs) e) t)

  -- a change of the element at k alone
  pub map-only : (f : A → A) (d : A) (k : ℕ) (xs : List A) → ((j : ℕ) → j < length xs → (j ≡ k → ⊥) → f (get_or xs j d) ≡ get_or xs j d)
      → map f xs ≡ set xs k (f (get_or xs k d))
  map-only f d k [] h = refl
  map-only f d zero (x ∷ xs) h =
      ap (λ (l : List A). f x ∷ l)
      (ext_get_or d (map f xs) xs (length-map xs f)
      (λ j b. let g : j < length xs = omega (arith, length-map xs f) in get_d_map f xs d d j g ∙ h (suc j) (omega arith) (omega arith)))
  map-only f d (suc k) (x ∷ xs) h =
      λ u. h zero (omega arith) (omega arith) u ∷ map-only f d k xs (λ j b n. h (suc j) (omega arith) (λ q. n (omega arith))) u

-- ---- tabulate

module _ {A : Type 0} where
  -- a table of n has n elements
  pub length-tabulate : (n : ℕ) (f : ℕ → A) → length (tabulate n f) ≡ n
  unfolding tabulate
  length-tabulate zero f = refl
  length-tabulate (suc n) f = ap suc (length-tabulate n (λ i. f (suc i)))

  -- the element at an index
  pub get_d_tabulate : (n : ℕ) (f : ℕ → A) (d : A) (i : ℕ) → i < n → get_or (tabulate n f) i d ≡ f i
  unfolding tabulate
  get_d_tabulate zero f d i h = absurd (omega arith)
  get_d_tabulate (suc n) f d zero h = refl
  get_d_tabulate (suc n) f d (suc i) h = get_d_tabulate n (λ j. f (suc j)) d i (omega arith)

  -- two functions that agree below n have one table
  pub tabulate-ext : (n : ℕ) (f g : ℕ → A) → ((i : ℕ) → i < n → f i ≡ g i) → tabulate n f ≡ tabulate n g
  unfolding tabulate
  tabulate-ext zero f g h = refl
  tabulate-ext (suc n) f g h =
      λ k. h zero (omega arith) k ∷ tabulate-ext n (λ i. f (suc i)) (λ i. g (suc i)) (λ i b. h (suc i) (omega arith)) k

  -- the last element of a table
  pub tabulate-snoc : (n : ℕ) (f : ℕ → A) → tabulate (suc n) f ≡ tabulate n f ++ (f n ∷ [])
  unfolding tabulate
  tabulate-snoc zero f = refl
  tabulate-snoc (suc n) f = ap (λ (l : List A). f zero ∷ l) (tabulate-snoc n (λ i. f (suc i)))

  -- the images of a table
  pub map-tabulate : {B : Type 0} (g : A → B) (n : ℕ) (f : ℕ → A) → map g (tabulate n f) ≡ tabulate n (λ i. g (f i))
  unfolding tabulate
  map-tabulate g zero f = refl
  map-tabulate {B} g (suc n) f = ap (λ (l : List B). g (f zero) ∷ l) (map-tabulate g n (λ i. f (suc i)))

  -- a list is the table of its elements
  pub tabulate-get_or : (xs : List A) (d : A) → tabulate (length xs) (λ i. get_or xs i d) ≡ xs
  unfolding tabulate
  tabulate-get_or [] d = refl
  tabulate-get_or (x ∷ xs) d = ap (λ (l : List A). x ∷ l) (tabulate-get_or xs d)

  -- a part of a list is a table
  pub tabulate-part : (xs : List A) (d : A) (base n : ℕ) → base + n ≤ length xs → take n (drop base xs) ≡ tabulate n (λ i. get_or xs (base + i) d)
  tabulate-part xs d base n h =
      let l : length (take n (drop base xs)) ≡ n = length-take-le n (drop base xs) (simp length-drop (omega arith)) in
      let m = length-tabulate n (λ i. get_or xs (base + i) d) in
      ext_get_or d (take n (drop base xs)) (tabulate n (λ i. get_or xs (base + i) d)) (omega arith)
      (λ i b. let g : i < n = omega arith in rw (get_or-take n (drop base xs) i d g, get_or-drop base xs i d) (sym (get_d_tabulate n (λ j. get_or xs (base + j) d) d i g)))

  -- two functions that agree but at i
  pub set-tabulate : (n i : ℕ) (f g : ℕ → A) → i < n → ((j : ℕ) → j < n → (j ≡ i → ⊥) → g j ≡ f j) → tabulate n g ≡ set (tabulate n f) i (g i)
  unfolding tabulate
  set-tabulate zero i f g h e = absurd (omega arith)
  set-tabulate (suc n) zero f g h e =
      ap (λ (l : List A). g zero ∷ l) (tabulate-ext n (λ j. g (suc j)) (λ j. f (suc j)) (λ j b. e (suc j) (omega arith) (omega arith)))
  set-tabulate (suc n) (suc i) f g h e =
      λ u. e zero (omega arith) (omega arith) u ∷ set-tabulate n i (λ j. f (suc j)) (λ j. g (suc j)) (omega arith) (λ j b d. e (suc j) (omega arith) (λ q. d (omega arith))) u

  -- the start of a table
  pub take-tabulate : (k n : ℕ) (f : ℕ → A) → k ≤ n → take k (tabulate n f) ≡ tabulate k f
  unfolding tabulate
  take-tabulate zero n f h = refl
  take-tabulate (suc k) zero f h = absurd (omega arith)
  take-tabulate (suc k) (suc n) f h = ap (λ (l : List A). f zero ∷ l) (take-tabulate k n (λ i. f (suc i)) (omega arith))

  -- each index passes, so every element does
  pub every-tabulate : (p : A → Bool) (n : ℕ) (f : ℕ → A) → ((i : ℕ) → i < n → p (f i) ≡ true) → every p (tabulate n f) ≡ true
  unfolding tabulate every
  every-tabulate p zero f h = refl
  every-tabulate p (suc n) f h =
      and_intro (p (f zero)) (every p (tabulate n (λ i. f (suc i)))) (h zero (omega arith)) (every-tabulate p n (λ i. f (suc i)) (λ i b. h (suc i) (omega arith)))

  -- every element passes, so each index does
  pub every-tabulate-at : (p : A → Bool) (n : ℕ) (f : ℕ → A) (i : ℕ) → i < n → every p (tabulate n f) ≡ true → p (f i) ≡ true
  every-tabulate-at p n f i h e = cc (get_d_tabulate n f (f i) i h, every-at p (tabulate n f) (f i) i (rw length-tabulate h) e)

  -- an index passes, so some element does
  pub some-tabulate : (p : A → Bool) (n : ℕ) (f : ℕ → A) (i : ℕ) → i < n → p (f i) ≡ true → some p (tabulate n f) ≡ true
  some-tabulate p n f i h t =
      some_at p (tabulate n f) (f i) i (rw length-tabulate h) (ap p (get_d_tabulate n f (f i) i h) ∙ t)

-- ---- skip

-- an index below k stays
pub skip_below : (k j : ℕ) → j < k → skip k j ≡ j
skip_below k j h = rw (lt-ltb j k h)

-- an index from k on is one more
pub skip-from : (k j : ℕ) → k ≤ j → skip k j ≡ suc j
skip-from k j h = rw (le-ltb j k h)

-- k is skipped
pub skip-not : (k j : ℕ) → skip k j ≡ k → ⊥
skip-not k j e =
    ⊎_elim (λ b. let s = skip_below k j b in omega arith) (λ b. let s = skip-from k j b in omega arith) (below_or_not j k)

-- the indices that are left stay in range
pub skip-lt : (k j n : ℕ) → suc j < n → skip k j < n
skip-lt k j n h =
    ⊎_elim (λ b. let s = skip_below k j b in omega arith) (λ b. let s = skip-from k j b in omega arith) (below_or_not j k)

-- each index but k is one that is left
pub skip-find : (k i n : ℕ) → (i ≡ k → ⊥) → i < suc n → k < suc n → (j : ℕ) × (j < n) × (skip k j ≡ i)
skip-find k i n d h g =
    ⊎_elim
    (λ b. (i, omega arith, skip_below k i b))
    (λ b.
    let n : k < i = ⊎_elim (λ t. t) (λ t. absurd (d (omega arith))) (below_or_not k i) in
    let e : suc (i - 1) ≡ i = omega arith in (i - 1, omega arith, skip-from k (i - 1) (omega arith) ∙ e))
    (below_or_not i k)

-- both indices one more
skip-suc : (k i : ℕ) → suc (skip k i) ≡ skip (suc k) (suc i)
skip-suc k i =
    ⊎_elim
    (λ b. ap suc (skip_below k i b) ∙ sym (skip_below (suc k) (suc i) (omega arith)))
    (λ b. ap suc (skip-from k i b) ∙ sym (skip-from (suc k) (suc i) (omega arith)))
    (below_or_not i k)

-- ---- delete_at

module _ {A : Type 0} where
  -- what stands before k and after it
  pub delete-split : (k : ℕ) (xs : List A) → delete_at k xs ≡ take k xs ++ drop (suc k) xs
  unfolding delete_at
  delete-split k [] = sym (ap (λ (l : List A). l ++ []) (take-nil k))
  delete-split zero (x ∷ xs) = refl
  delete-split (suc k) (x ∷ xs) = ap (λ (l : List A). x ∷ l) (delete-split k xs)

  -- one less is left
  pub length-delete : (k : ℕ) (xs : List A) → k < length xs → suc (length (delete_at k xs)) ≡ length xs
  unfolding delete_at
  length-delete k [] h = absurd (omega arith)
  length-delete zero (x ∷ xs) h = refl
  length-delete (suc k) (x ∷ xs) h = ap suc (length-delete k xs (omega arith))

  -- the element at an index of what is left
  pub get_or-delete : (k : ℕ) (xs : List A) (d : A) (j : ℕ) → get_or (delete_at k xs) j d ≡ get_or xs (skip k j) d
  unfolding delete_at
  get_or-delete k [] d j = refl
  get_or-delete zero (x ∷ xs) d j = ap (λ (i : ℕ). get_or (x ∷ xs) i d) (sym (skip-from zero j (omega arith)))
  get_or-delete (suc k) (x ∷ xs) d zero = ap (λ (i : ℕ). get_or (x ∷ xs) i d) (sym (skip_below (suc k) zero (omega arith)))
  get_or-delete (suc k) (x ∷ xs) d (suc j) = cc (get_or-delete k xs d j, skip-suc k j)

  -- a table without index k
  pub delete-tabulate : (n k : ℕ) (f : ℕ → A) → k ≤ n → delete_at k (tabulate (suc n) f) ≡ tabulate n (λ j. f (skip k j))
  delete-tabulate n k f h =
      let l = length-tabulate (suc n) f in
      let m = length-delete k (tabulate (suc n) f) (omega arith) in
      let z = length-tabulate n (λ j. f (skip k j)) in
      ext_get_or (f zero) (delete_at k (tabulate (suc n) f)) (tabulate n (λ j. f (skip k j))) (omega arith)
      (λ j b.
      get_or-delete k (tabulate (suc n) f) (f zero) j
      ∙ get_d_tabulate (suc n) f (f zero) (skip k j) (skip-lt k j (suc n) (omega arith))
      ∙ sym (get_d_tabulate n (λ i. f (skip k i)) (f zero) j (omega arith)))

  -- the images of what is left
  pub map-delete : {B : Type 0} (f : A → B) (k : ℕ) (xs : List A) → map f (delete_at k xs) ≡ delete_at k (map f xs)
  unfolding delete_at
  map-delete f k [] = refl
  map-delete f zero (x ∷ xs) = refl
  map-delete {B} f (suc k) (x ∷ xs) = ap (λ (l : List B). f x ∷ l) (map-delete f k xs)

  -- what every element passes, every one that is left does
  pub every-delete : (p : A → Bool) (k : ℕ) (xs : List A) → every p xs ≡ true → every p (delete_at k xs) ≡ true
  unfolding every delete_at
  every-delete p k [] e = e
  every-delete p zero (x ∷ xs) e = and_right (p x) (every p xs) e
  every-delete p (suc k) (x ∷ xs) e =
      and_intro (p x) (every p (delete_at k xs)) (and_left (p x) (every p xs) e) (every-delete p k xs (and_right (p x) (every p xs) e))

  -- what no element passes, none that is left does
  pub some-delete-none : (p : A → Bool) (k : ℕ) (xs : List A) → some p xs ≡ false → some p (delete_at k xs) ≡ false
  some-delete-none p k xs e = none-some p (delete_at k xs) (every-delete (λ x. not (p x)) k xs (some-none p xs e))

  -- what passes at another index is still there
  pub some-delete : (p : A → Bool) (d : A) (k i : ℕ) (xs : List A) → k < length xs → i < length xs → (i ≡ k → ⊥) → p (get_or xs i d) ≡ true → some p (delete_at k xs) ≡ true
  some-delete p d k i xs h g n t =
      let l = length-delete k xs h in
      let r = skip-find k i (length (delete_at k xs)) n (omega arith) (omega arith) in
      some_at p (delete_at k xs) d r.0 r.1 (cc (get_or-delete k xs d r.0, r.2, t))

  -- where the test fails at k alone
  pub delete-keep : (p : A → Bool) (d : A) (k : ℕ) (xs : List A) → k < length xs → p (get_or xs k d) ≡ false
      → ((j : ℕ) → j < length xs → (j ≡ k → ⊥) → p (get_or xs j d) ≡ true) → delete_at k xs ≡ keep p xs
  unfolding delete_at
  delete-keep p d k [] h f t = absurd (omega arith)
  delete-keep p d zero (x ∷ xs) h f t =
      sym (keep-no p x xs f ∙ keep_all p xs (every-from-at p d xs (λ j b. t (suc j) (omega arith) (omega arith))))
  delete-keep p d (suc k) (x ∷ xs) h f t =
      cc (delete-keep p d k xs (omega arith) f (λ j b n. t (suc j) (omega arith) (λ q. n (omega arith))), keep-yes p x xs (t zero (omega arith) (omega arith)))

  -- where every element passes but the one put at k
  pub keep-set : (p : A → Bool) (k : ℕ) (xs : List A) (y : A) → k < length xs → p y ≡ false → every p xs ≡ true → keep p (set xs k y) ≡ delete_at k xs
  unfolding every delete_at
  keep-set p k [] y h f e = absurd (omega arith)
  keep-set p zero (x ∷ xs) y h f e = keep-no p y xs f ∙ keep_all p xs (and_right (p x) (every p xs) e)
  keep-set p (suc k) (x ∷ xs) y h f e = cc (keep-yes p x (set xs k y) (and_left (p x) (every p xs) e), keep-set p k xs y (omega arith) f (and_right (p x) (every p xs) e))
