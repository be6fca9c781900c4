-- Laws of the elements of a list: what holds of each, and the only one that passes a test.
use Prim.Native.Nat.{ℕ, zero, suc, ◌<◌}
use mathlib.Core.Path.{◌≡◌, refl, sym, ap, ◌∙◌}
use mathlib.Core.Bool.{Bool, true, false, cond, not, ◌&&◌, and-true, or-true, true≢false}
use mathlib.Core.List.Memᴰ
use mathlib.Core.List.{List, [], ◌∷◌, ◌++◌, map, Memᴰ}
use mathlib.Core.Logic.{◌⊎◌, inl, inr, ⊎_elim}
use native.Mathlib.Omega.{arith}
use lib.ListN.{length}
use Rattle.lists.specs.Lists.{keep, some, every, first_or, distinct, tabulate}
use Rattle.lists.proofs.Tests.{true-or-false, and_intro, and_left, and_right, or_cases}
use Rattle.lists.proofs.Lists.{some-map, none-some, keep_all, keep-none, map-map}
use Rattle.lists.proofs.Distinct.{Decides, same-eq, distinct_head, distinct_tail}
use Rattle.kinds.proofs.Refusing.{same_test}

-- x is an element of xs
abbrev pub In : {A : Type 0} → A → List A → Type 0
In x xs = Memᴰ x xs

-- ---- tests of elements

module _ {A : Type 0} (p : A → Bool) where
  -- what every element passes
  pub every_in : {x : A} {xs : List A} → In x xs → every p xs ≡ true → p x ≡ true
  unfolding every
  every_in {x} (Memᴰ.head {x = y} {xs = ys} e) h = ap p e ∙ and_left (p y) (every p ys) h
  every_in {x} (Memᴰ.tail {x = y} {xs = ys} m) h = every_in m (and_right (p y) (every p ys) h)

  -- each passes, so every one does
  pub in-every : (xs : List A) → ((x : A) → In x xs → p x ≡ true) → every p xs ≡ true
  unfolding every
  in-every [] h = refl
  in-every (x ∷ xs) h =
      and_intro (p x) (every p xs) (h x (Memᴰ.head refl)) (in-every xs (λ y m. h y (Memᴰ.tail m)))

  -- one passes, so some does
  pub in_some : {x : A} {xs : List A} → In x xs → p x ≡ true → some p xs ≡ true
  unfolding some
  in_some {x} (Memᴰ.head {x = y} {xs = ys} e) h = rw (ap p (sym e) ∙ h)
  in_some {x} (Memᴰ.tail {x = y} {xs = ys} m) h = rw (in_some m h) (or-true (p y))

  -- one that passes
  pub some_in : (xs : List A) → some p xs ≡ true → (x : A) × In x xs × (p x ≡ true)
  unfolding some
  some_in [] h = absurd (true≢false (sym h))
  some_in (x ∷ xs) h =
      ⊎_elim
      (λ t. (x, Memᴰ.head refl, t))
      (λ t. let r = some_in xs t in (r.0, Memᴰ.tail r.1, r.2))
      (or_cases (p x) (some p xs) h)

  -- a kept element passes
  pub keep-in : {x : A} (xs : List A) → In x (keep p xs) → In x xs × (p x ≡ true)
  unfolding keep
  keep-in [] m = absurd (Memᴰ.not-nil m)
  keep-in {x} (y ∷ ys) m =
      ⊎_elim
      (λ t. first t (λ n. keep-in ys n) (rw t at m))
      (λ f. let r = keep-in ys (rw f at m) in (Memᴰ.tail r.0, r.1))
      (true-or-false (p y))
    where
      first : p y ≡ true → (In x (keep p ys) → In x ys × (p x ≡ true)) → In x (y ∷ keep p ys) → In x (y ∷ ys) × (p x ≡ true)
      first t k (Memᴰ.head e) = (Memᴰ.head e, ap p e ∙ t)
      first t k (Memᴰ.tail n) = let r = k n in (Memᴰ.tail r.0, r.1)

  -- one that passes is kept
  pub in-keep : {x : A} {xs : List A} → In x xs → p x ≡ true → In x (keep p xs)
  unfolding keep
  in-keep {x} (Memᴰ.head {x = y} {xs = ys} e) h = rw (ap p (sym e) ∙ h) (Memᴰ.head e)
  in-keep {x} (Memᴰ.tail {x = y} {xs = ys} m) h =
      let r = in-keep m h in ⊎_elim (λ t. rw t (Memᴰ.tail r)) (λ f. rw f r) (true-or-false (p y))

-- none passes
pub in-none : {A : Type 0} (p : A → Bool) (xs : List A) → ((x : A) → In x xs → p x ≡ false) → some p xs ≡ false
in-none p xs h = none-some p xs (in-every (λ x. not (p x)) xs (λ x m. ap not (h x m)))

-- ---- images, and a last element

-- an element of the images
pub map-in : {A B : Type 0} (f : A → B) {y : B} (xs : List A) → In y (map f xs) → (x : A) × In x xs × (y ≡ f x)
map-in f xs m = let r = Memᴰ.of_map f xs m in (r.0, r.1, sym r.2)

-- an element of a list with a last one
pub snoc-in : {A : Type 0} {x z : A} (xs : List A) → In x (xs ++ (z ∷ [])) → In x xs ⊎ (x ≡ z)
snoc-in xs m = ⊎_elim (λ n. inl n) (λ n. inr (Memᴰ.eq_of_singleton n)) (Memᴰ.append_cases xs m)

-- the last one
pub in-last : {A : Type 0} (xs : List A) (z : A) → In z (xs ++ (z ∷ []))
in-last xs z = Memᴰ.append_right xs (Memᴰ.head refl)

-- ---- tables

module _ {A : Type 0} where
  -- an element of a table of a function
  pub tabulate-in : {y : A} (n : ℕ) (f : ℕ → A) → In y (tabulate n f) → (i : ℕ) × (i < n) × (y ≡ f i)
  unfolding tabulate
  tabulate-in zero f m = absurd (Memᴰ.not-nil m)
  tabulate-in (suc n) f (Memᴰ.head e) = (zero, omega arith, e)
  tabulate-in (suc n) f (Memᴰ.tail m) = let r = tabulate-in n (λ i. f (suc i)) m in let b = r.1 in (suc r.0, omega arith, r.2)

  -- each is one
  pub in-tabulate : (n : ℕ) (f : ℕ → A) (i : ℕ) → i < n → In (f i) (tabulate n f)
  unfolding tabulate
  in-tabulate zero f i h = absurd (omega arith)
  in-tabulate (suc n) f zero h = Memᴰ.head refl
  in-tabulate (suc n) f (suc i) h = Memᴰ.tail (in-tabulate n (λ j. f (suc j)) i (omega arith))

-- ---- two functions that agree on the elements

module _ {A B : Type 0} (f g : A → B) where
  -- the images are the same
  pub map-ext-in : (xs : List A) → ((x : A) → In x xs → f x ≡ g x) → map f xs ≡ map g xs
  map-ext-in [] h = refl
  map-ext-in (x ∷ xs) h = λ k. h x (Memᴰ.head refl) k ∷ map-ext-in xs (λ y m. h y (Memᴰ.tail m)) k

module _ {A : Type 0} (p q : A → Bool) where
  -- the same are kept
  pub keep-ext-in : (xs : List A) → ((x : A) → In x xs → p x ≡ q x) → keep p xs ≡ keep q xs
  unfolding keep
  keep-ext-in [] h = refl
  keep-ext-in (x ∷ xs) h =
      let r = keep-ext-in xs (λ y m. h y (Memᴰ.tail m)) in λ k. cond (h x (Memᴰ.head refl) k) (x ∷ r k) (r k)

-- elements changed by c: after it p' keeps what p kept before and q passes, and f' reads what g makes of what f read
module _ {A B : Type 0} (c : A → A) (p p' : A → Bool) (f f' : A → B) (q : B → Bool) (g : B → B) where
  pub kept-changed : (xs : List A) → ((x : A) → In x xs → p' (c x) ≡ (p x && q (f x))) → ((x : A) → In x xs → p x ≡ true → q (f x) ≡ true → f' (c x) ≡ g (f x))
      → map f' (keep p' (map c xs)) ≡ map g (keep q (map f (keep p xs)))
  unfolding keep
  kept-changed [] s t = refl
  kept-changed (x ∷ xs) s t =
      let r = kept-changed xs (λ y m. s y (Memᴰ.tail m)) (λ y m. t y (Memᴰ.tail m)) in
      let w = s x (Memᴰ.head refl) in
      ⊎_elim
      (λ a. ⊎_elim
      (λ b. let v : p' (c x) ≡ true = w ∙ and_intro (p x) (q (f x)) a b in rw v (rw a (rw b (λ k. t x (Memᴰ.head refl) a b k ∷ r k))))
      (λ b. let v : p' (c x) ≡ false = w ∙ ap (λ (z : Bool). z && q (f x)) a ∙ b in rw v (rw a (rw b r)))
      (true-or-false (q (f x))))
      (λ a. let v : p' (c x) ≡ false = w ∙ ap (λ (z : Bool). z && q (f x)) a in rw v (rw a r))
      (true-or-false (p x))

-- the same where all that were kept stay kept
pub changed-kept : {A B : Type 0} (c : A → A) (p p' : A → Bool) (f f' : A → B) (g : B → B) (xs : List A)
    → ((x : A) → In x xs → p' (c x) ≡ p x) → ((x : A) → In x xs → p x ≡ true → f' (c x) ≡ g (f x))
    → map f' (keep p' (map c xs)) ≡ map g (map f (keep p xs))
changed-kept c p p' f f' g xs s t =
    kept-changed c p p' f f' (λ y. true) g xs (λ x m. s x m ∙ sym (and-true (p x))) (λ x m a b. t x m a) ∙ ap (map g) (keep_all _ _ (in-every _ _ (λ y m. refl)))

-- what is read of the first that passes, where a change leaves both
pub first-unread : {A B : Type 0} (d : A) (p : A → Bool) (f : A → B) (c : A → A) → ((x : A) → p (c x) ≡ p x) → ((x : A) → f (c x) ≡ f x)
    → (xs : List A) → f (first_or d p (map c xs)) ≡ f (first_or d p xs)
unfolding first_or
first-unread d p f c s t [] = refl
first-unread d p f c s t (x ∷ xs) =
    ⊎_elim (λ a. let v : p (c x) ≡ true = s x ∙ a in rw v (rw a (t x))) (λ a. let v : p (c x) ≡ false = s x ∙ a in rw v (rw a (first-unread d p f c s t xs))) (true-or-false (p x))

-- ---- the only element that passes

pub record Sole {A : Type 0} (p : A → Bool) (xs : List A) (x : A) : Type 0 where
  pub here : In x xs
  pub passes : p x ≡ true
  pub only : (y : A) → In y xs → p y ≡ true → y ≡ x

module _ {A : Type 0} (p : A → Bool) {x : A} where
  -- it is the first, by its three properties
  first-only : (d : A) (xs : List A) → In x xs → ((y : A) → In y xs → p y ≡ true → y ≡ x) → p x ≡ true → first_or d p xs ≡ x
  unfolding first_or
  first-only d [] m u t = absurd (Memᴰ.not-nil m)
  first-only d (y ∷ ys) m u t =
      ⊎_elim
      (λ a. rw a (u y (Memᴰ.head refl) a))
      (λ a. rw a (first-only d ys (past a m) (λ z n. u z (Memᴰ.tail n)) t))
      (true-or-false (p y))
    where
      past : p y ≡ false → In x (y ∷ ys) → In x ys
      past a (Memᴰ.head e) = absurd (true≢false (cc (t, e, a)))
      past a (Memᴰ.tail n) = n

  -- it is the first
  pub first-sole : {xs : List A} (d : A) → Sole p xs x → first_or d p xs ≡ x
  first-sole {xs} d s = first-only d xs s.here s.only s.passes

  -- some passes another test too where it does
  pub some-sole : {xs : List A} → Sole p xs x → (r : A → Bool) → some (λ y. p y && r y) xs ≡ r x
  some-sole {xs} s r =
      same_test (some (λ y. p y && r y) xs) (r x)
      (λ t. let w = some_in (λ y. p y && r y) xs t in cc (s.only w.0 w.1 (and_left (p w.0) (r w.0) w.2), and_right (p w.0) (r w.0) w.2))
      (λ t. in_some (λ y. p y && r y) s.here (and_intro (p x) (r x) s.passes t))

  -- it is among the kept where it is kept
  pub kept-sole : {xs : List A} → Sole p xs x → (r : A → Bool) → some p (keep r xs) ≡ r x
  kept-sole {xs} s r =
      same_test (some p (keep r xs)) (r x)
      (λ t. let w = some_in p (keep r xs) t in let v = keep-in r xs w.1 in ap r (sym (s.only w.0 v.0 w.2)) ∙ v.1)
      (λ t. in_some p (in-keep r s.here t) s.passes)

-- of the kept elements
pub sole-keep : {A : Type 0} (p q : A → Bool) {x : A} {xs : List A} → Sole p (keep q xs) x → Sole (λ y. p y && q y) xs x
sole-keep p q {x} {xs} s =
    let r = keep-in q xs s.here in
    record {
      here = r.0;
      passes = and_intro (p x) (q x) s.passes r.1;
      only = λ y m t. s.only y (in-keep q m (and_right (p y) (q y) t)) (and_left (p y) (q y) t);
    }

-- of the images
pub sole-map : {A B : Type 0} (p : B → Bool) (f : A → B) {x : A} {xs : List A} → Sole (λ y. p (f y)) xs x → Sole p (map f xs) (f x)
sole-map p f {x} {xs} s =
    record {
      here = Memᴰ.map f s.here;
      passes = s.passes;
      only = λ y m t. let r = map-in f xs m in r.2 ∙ ap f (s.only r.0 r.1 (cc (r.2, t)));
    }

module _ {A B : Type 0} (same : B → B → Bool) (dec : Decides same) (f : A → B) where
  -- the first key is no later one's
  head-key : {z w : A} (zs : List A) → distinct same (map f (z ∷ zs)) ≡ true → In w zs → f z ≡ f w → ⊥
  head-key {z} {w} zs u m e =
      true≢false (sym (in_some (same (f z)) (Memᴰ.map f m) (same-eq same dec (f z) (f w) e)) ∙ distinct_head same (f z) (map f zs) u)

  -- elements with one key are one where keys are distinct
  pub one_in : {x y : A} (xs : List A) → distinct same (map f xs) ≡ true → In x xs → In y xs → f x ≡ f y → x ≡ y
  one_in [] u m n e = absurd (Memᴰ.not-nil m)
  one_in (z ∷ zs) u (Memᴰ.head a) (Memᴰ.head b) e = a ∙ sym b
  one_in (z ∷ zs) u (Memᴰ.head a) (Memᴰ.tail n) e = absurd (head-key zs u n (cc (a, e)))
  one_in (z ∷ zs) u (Memᴰ.tail m) (Memᴰ.head b) e = absurd (head-key zs u m (cc (b, e)))
  one_in (z ∷ zs) u (Memᴰ.tail m) (Memᴰ.tail n) e = one_in zs (distinct_tail same (f z) (map f zs) u) m n e

  -- an element is the only one with its key
  pub sole-key : (k : B) {x : A} {xs : List A} → distinct same (map f xs) ≡ true → In x xs → k ≡ f x → Sole (λ y. same k (f y)) xs x
  sole-key k {x} {xs} u m e =
      record { here = m; passes = same-eq same dec k (f x) e; only = λ y n t. one_in xs u n m (sym (dec.sound k (f y) t) ∙ e) }

  -- the same with the test the other way round
  pub sole-by : (k : B) {x : A} {xs : List A} → distinct same (map f xs) ≡ true → In x xs → f x ≡ k → Sole (λ y. same (f y) k) xs x
  sole-by k {x} {xs} u m e =
      record { here = m; passes = same-eq same dec (f x) k e; only = λ y n t. one_in xs u n m (dec.sound (f y) k t ∙ sym e) }

  -- a key that is there is of one element
  pub sole-found : (k : B) (xs : List A) → distinct same (map f xs) ≡ true → some (same k) (map f xs) ≡ true → (x : A) × Sole (λ y. same k (f y)) xs x
  sole-found k xs u h =
      let r = some_in (λ y. same k (f y)) xs (sym (some-map (same k) f xs) ∙ h) in
      (r.0, sole-key k u r.1 (dec.sound k (f r.0) r.2))

  -- it alone is kept
  pub keep_one : (k : B) (xs : List A) → distinct same (map f xs) ≡ true → some (same k) (map f xs) ≡ true → length (keep (λ y. same k (f y)) xs) ≡ 1
  unfolding some keep
  keep_one k [] u h = absurd (true≢false (sym h))
  keep_one k (x ∷ xs) u h =
      ⊎_elim
      (λ t.
      let n : some (λ y. same k (f y)) xs ≡ false =
      sym (some-map (same k) f xs) ∙ ap (λ (z : B). some (same z) (map f xs)) (dec.sound k (f x) t) ∙ distinct_head same (f x) (map f xs) u in
      rw t (ap (λ (l : List A). length (x ∷ l)) (keep-none (λ y. same k (f y)) xs n)))
      (λ t. rw t (keep_one k xs (distinct_tail same (f x) (map f xs) u) (rw t at h)))
      (true-or-false (same k (f x)))

-- a key that some image has is of one element, where the keys of the images are distinct
pub sole-image : {A B C : Type 0} (same : C → C → Bool) → Decides same → (g : B → C) (f : A → B) (k : C) (xs : List A)
    → distinct same (map g (map f xs)) ≡ true → some (same k) (map g (map f xs)) ≡ true → (x : A) × Sole (λ y. same k (g (f y))) xs x
sole-image same dec g f k xs u h =
    sole-found same dec (λ x. g (f x)) k xs (cc (map-map g f xs, u)) (cc (map-map g f xs, h))
