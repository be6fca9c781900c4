-- Laws of distinct elements, and of tests that decide equality.
use Prim.Native.Nat.{ℕ, zero, suc, ◌<◌}
use mathlib.Core.Path.{◌≡◌, refl, sym, ap, ◌∙◌}
use mathlib.Core.Bool.{Bool, true, false, cond, not, ◌&&◌, ◌||◌, and-false, and-true, true≢false}
use mathlib.Core.List.{List, [], ◌∷◌, ◌++◌, map}
use mathlib.Core.Logic.{⊎_elim}
use native.Mathlib.Omega.{arith}
use borrow.Author.Tests.{eq-eqb, ne_eqb, eqb-true, not-true}
use lib.ListN.{get_or, length, set, length-map}
use lib.Dec.{eqb}
use Rattle.kinds.proofs.Refusing.{same_test, or-false}
use Rattle.lists.specs.Lists.{apart, keep, some, every, first_index, distinct, delete_at, skip}
use Rattle.lists.proofs.Tests.{true-or-false, same_or_not, and_intro, and_left, and_right}
use Rattle.lists.proofs.First.{first-at, first-only}
use Rattle.lists.proofs.Lists.{every_append, every_map, every-mono, every-kept, every-ext, some-cons, some-snoc, some_at, some-map, some-append, some_one, some-none, none-some, some-kept-none}
use Rattle.lists.proofs.Lists.{some-delete, some-kept, keep-map, keep-passes, get_d_map, map-only, delete-keep, some-delete-none, length-delete, get_or-delete, skip-not, skip-lt, every-from-at}

-- ---- tests that decide equality

pub record Decides {A : Type 0} (same : A → A → Bool) : Type 0 where
  pub sound : (x y : A) → same x y ≡ true → x ≡ y
  pub self : (x : A) → same x x ≡ true

-- equality of numbers
pub eqb-decides : Decides eqb
eqb-decides = record { sound = eqb-true; self = λ x. eq-eqb x x refl }

-- ---- distinct

-- the tests of a first element and of the rest, in the order of two lists
regroup : (s t u v w : Bool) → (not (s || t) && (u && v && w)) ≡ (not s && u && v && (not t && w))
regroup true t u v w = refl
regroup false true u v w = sym (and-false (u && v))
regroup false false u v w = refl

module _ {A : Type 0} (same : A → A → Bool) where
  -- the first is not among the others
  pub distinct_head : (x : A) (xs : List A) → distinct same (x ∷ xs) ≡ true → some (same x) xs ≡ false
  unfolding distinct
  distinct_head x xs h = not-true (some (same x) xs) (and_left (not (some (same x) xs)) (distinct same xs) h)

  -- the others are distinct
  pub distinct_tail : (x : A) (xs : List A) → distinct same (x ∷ xs) ≡ true → distinct same xs ≡ true
  unfolding distinct
  distinct_tail x xs h = and_right (not (some (same x) xs)) (distinct same xs) h

  -- of no element
  pub distinct_none : distinct same [] ≡ true
  unfolding distinct
  distinct_none = refl

  -- of one element
  pub distinct-one : (x : A) → distinct same (x ∷ []) ≡ true
  unfolding distinct some
  distinct-one x = refl

  -- an element before distinct ones that it is not among
  pub distinct_cons : (x : A) (xs : List A) → some (same x) xs ≡ false → distinct same xs ≡ true → distinct same (x ∷ xs) ≡ true
  unfolding distinct
  distinct_cons x xs n h = and_intro (not (some (same x) xs)) (distinct same xs) (ap not n) h

  -- of the images
  pub distinct-map : {B : Type 0} (f : B → A) (xs : List B) → distinct same (map f xs) ≡ distinct (λ x y. same (f x) (f y)) xs
  unfolding distinct
  distinct-map f [] = refl
  distinct-map f (x ∷ xs) = rw (some-map (same (f x)) f xs, distinct-map f xs)

  -- of the kept elements
  pub distinct-keep : (p : A → Bool) (xs : List A) → distinct same xs ≡ true → distinct same (keep p xs) ≡ true
  unfolding keep
  distinct-keep p [] h = h
  distinct-keep p (x ∷ xs) h =
      let r = distinct-keep p xs (distinct_tail x xs h) in
      ⊎_elim
      (λ t. rw t (distinct_cons x (keep p xs) (some-kept-none (same x) p xs (distinct_head x xs h)) r))
      (λ f. rw f r)
      (true-or-false (p x))

  -- of what is left without index k
  pub distinct-delete : (k : ℕ) (xs : List A) → distinct same xs ≡ true → distinct same (delete_at k xs) ≡ true
  unfolding delete_at
  distinct-delete k [] h = h
  distinct-delete zero (x ∷ xs) h = distinct_tail x xs h
  distinct-delete (suc k) (x ∷ xs) h =
      distinct_cons x (delete_at k xs) (some-delete-none (same x) k xs (distinct_head x xs h)) (distinct-delete k xs (distinct_tail x xs h))

  -- of two lists one after the other
  pub distinct_append : (xs ys : List A) → distinct same (xs ++ ys) ≡ (distinct same xs && distinct same ys && apart same xs ys)
  unfolding distinct every
  distinct_append [] ys = sym (and-true (distinct same ys))
  distinct_append (x ∷ xs) ys =
      rw (some-append (same x) xs ys, distinct_append xs ys)
      (regroup (some (same x) xs) (some (same x) ys) (distinct same xs) (distinct same ys) (apart same xs ys))

  -- no two indices have the same element
  pub distinct-from-at : (d : A) (xs : List A) → ((j k : ℕ) → j < k → k < length xs → same (get_or xs j d) (get_or xs k d) ≡ false) → distinct same xs ≡ true
  unfolding distinct
  distinct-from-at d [] h = refl
  distinct-from-at d (x ∷ xs) h =
      distinct_cons x xs
      (none-some (same x) xs (every-from-at (λ y. not (same x y)) d xs (λ k b. ap not (h zero (suc k) (omega arith) (omega arith)))))
      (distinct-from-at d xs (λ j k b g. h (suc j) (suc k) (omega arith) (omega arith)))

-- of the images of the kept elements
pub distinct-map-keep : {A B : Type 0} (same : A → A → Bool) (f : B → A) (p : B → Bool) (xs : List B)
    → distinct same (map f xs) ≡ true → distinct same (map f (keep p xs)) ≡ true
distinct-map-keep same f p xs h = cc (distinct-map same f (keep p xs), distinct-keep (λ x y. same (f x) (f y)) p xs (sym (distinct-map same f xs) ∙ h))

module _ {A : Type 0} (same : A → A → Bool) (dec : Decides same) where
  -- equal elements are the same
  pub same-eq : (x y : A) → x ≡ y → same x y ≡ true
  same-eq x y e = cc (e, dec.self x)

  -- elements that are not equal are not the same
  pub same-ne : (x y : A) → (x ≡ y → ⊥) → same x y ≡ false
  same-ne x y n = ⊎_elim (λ t. absurd (n (dec.sound x y t))) (λ f. f) (true-or-false (same x y))

  -- the order of the two is free
  pub same-comm : (x y : A) → same x y ≡ same y x
  same-comm x y = same_test (same x y) (same y x) (λ t. same-eq y x (sym (dec.sound x y t))) (λ t. same-eq x y (sym (dec.sound y x t)))

  -- the element at an index is among the elements
  pub some_same : (xs : List A) (d : A) (j : ℕ) → j < length xs → some (same (get_or xs j d)) xs ≡ true
  some_same xs d j h = some_at (same (get_or xs j d)) xs d j h (dec.self (get_or xs j d))

  -- what is the same as no element stands at no index
  pub some-absent : (x : A) (xs : List A) (d : A) (j : ℕ) → j < length xs → some (same x) xs ≡ false → x ≡ get_or xs j d → ⊥
  some-absent x xs d j h n e = true≢false (sym (some_at (same x) xs d j h (same-eq x (get_or xs j d) e)) ∙ n)

  -- what stands at no index is not among the elements
  pub absent-some : (x : A) (d : A) (xs : List A) → ((j : ℕ) → j < length xs → x ≡ get_or xs j d → ⊥) → some (same x) xs ≡ false
  absent-some x d xs h =
      none-some (same x) xs (every-from-at (λ y. not (same x y)) d xs (λ j b. ap not (same-ne x (get_or xs j d) (h j b))))

  -- distinct elements with a last one that is not among them
  pub distinct_snoc : (xs : List A) (x : A) → distinct same xs ≡ true → some (same x) xs ≡ false → distinct same (xs ++ (x ∷ [])) ≡ true
  distinct_snoc xs x h n =
      distinct_append same xs (x ∷ [])
      ∙ rw (h, distinct-one same x)
      (cc (every-ext (λ y. not (some (same y) (x ∷ []))) (λ y. not (same x y)) (λ y. ap not (some_one (same y) x ∙ same-comm y x)) xs, some-none (same x) xs n))

  -- equal elements stand at one index
  pub distinct-at : (xs : List A) (d : A) → distinct same xs ≡ true → (j k : ℕ) → j < length xs → k < length xs → get_or xs j d ≡ get_or xs k d → j ≡ k
  distinct-at [] d u j k h g e = absurd (omega arith)
  distinct-at (x ∷ xs) d u zero zero h g e = refl
  distinct-at (x ∷ xs) d u zero (suc k) h g e = absurd (some-absent x xs d k (omega arith) (distinct_head same x xs u) e)
  distinct-at (x ∷ xs) d u (suc j) zero h g e = absurd (some-absent x xs d j (omega arith) (distinct_head same x xs u) (sym e))
  distinct-at (x ∷ xs) d u (suc j) (suc k) h g e = ap suc (distinct-at xs d (distinct_tail same x xs u) j k (omega arith) (omega arith) e)

  -- of distinct elements, the one at k alone goes with k
  pub among-delete : (xs : List A) (d : A) (k r : ℕ) → distinct same xs ≡ true → k < length xs → r < length xs → some (same (get_or xs r d)) (delete_at k xs) ≡ not (eqb r k)
  among-delete xs d k r u h g =
      let l = length-delete k xs h in
      ⊎_elim
      (λ e.
      absent-some (get_or xs r d) d (delete_at k xs)
      (λ j b z.
      skip-not k j (distinct-at xs d u (skip k j) r (skip-lt k j (length xs) (omega arith)) g (sym (z ∙ get_or-delete k xs d j)) ∙ e))
      ∙ sym (ap not (eq-eqb r k e)))
      (λ n. some-delete (same (get_or xs r d)) d k r xs h g n (dec.self (get_or xs r d)) ∙ sym (ap not (ne_eqb r k n)))
      (same_or_not r k)

-- of distinct elements, the first that is the same as the one at j is the one at j
pub first-same : {A : Type 0} (same : A → A → Bool) → Decides same → (xs : List A) (d : A) (j : ℕ) → distinct same xs ≡ true → j < length xs → first_index (same (get_or xs j d)) xs ≡ j
first-same same dec xs d j u h =
    first-only (same (get_or xs j d)) d xs j h (dec.self (get_or xs j d))
    (λ k b t. sym (distinct-at same dec xs d u j k h b (dec.sound (get_or xs j d) (get_or xs k d) t)))

-- ---- insertion and parts

-- an element put between two lists whose elements are distinct and not the same as it
pub distinct-mid : {A : Type 0} (same : A → A → Bool) → Decides same → (x : A) (xs ys : List A) → distinct same (xs ++ ys) ≡ true
    → some (same x) (xs ++ ys) ≡ false → distinct same ((xs ++ (x ∷ [])) ++ ys) ≡ true
distinct-mid same dec x [] ys u n = distinct_cons same x ys n u
distinct-mid same dec x (y ∷ xs) ys u n =
    let h = or-false (some (same y) xs) (some (same y) ys) (sym (some-append (same y) xs ys) ∙ distinct_head same y (xs ++ ys) u) in
    let g = or-false (same x y) (some (same x) (xs ++ ys)) (sym (some-cons (same x) y (xs ++ ys)) ∙ n) in
    distinct_cons same y ((xs ++ (x ∷ [])) ++ ys)
    (some-append (same y) (xs ++ (x ∷ [])) ys
    ∙ rw (some-snoc (same y) xs x, h.0, h.1, same-comm same dec y x, g.0))
    (distinct-mid same dec x xs ys (distinct_tail same y (xs ++ ys) u) g.1)

-- ys is a part of xs: it passes the tests of every element that xs passes, and its elements are distinct where those of xs are
pub record Sublist {A : Type 0} (ys xs : List A) : Type 0 where
  pub passes : (p : A → Bool) → every p xs ≡ true → every p ys ≡ true
  pub differs : (same : A → A → Bool) → distinct same xs ≡ true → distinct same ys ≡ true

-- a list is a part of itself
pub sublist-whole : {A : Type 0} (xs : List A) → Sublist xs xs
sublist-whole xs = record { passes = λ p e. e; differs = λ same e. e }

-- the images of the kept elements
pub sublist-keep : {A B : Type 0} (f : A → B) (q : A → Bool) (xs : List A) → Sublist (map f (keep q xs)) (map f xs)
sublist-keep f q xs =
    record {
      passes = λ p e. every_map p f (keep q xs) ∙ every-kept (λ x. p (f x)) q xs (sym (every_map p f xs) ∙ e);
      differs = λ same e. distinct-map-keep same f q xs e;
    }

-- parts of two lists one after the other
pub sublist-append : {A : Type 0} {zs xs ws ys : List A} → Sublist zs xs → Sublist ws ys → Sublist (zs ++ ws) (xs ++ ys)
sublist-append {A} {zs} {xs} {ws} {ys} s t =
    record {
      passes = λ p e.
          let h = sym (every_append p xs ys) ∙ e in
          every_append p zs ws
          ∙ and_intro (every p zs) (every p ws)
          (s.passes p (and_left (every p xs) (every p ys) h))
          (t.passes p (and_right (every p xs) (every p ys) h));
      differs = λ same e.
          let h = sym (distinct_append same xs ys) ∙ e in
          let g = and_left (distinct same xs && distinct same ys) (apart same xs ys) h in
          let clear : A → Bool = λ x. not (some (same x) ys) in
          distinct_append same zs ws
          ∙ rw (
            s.differs same (and_left (distinct same xs) (distinct same ys) g),
            t.differs same (and_right (distinct same xs) (distinct same ys) g),
          )
          (every-mono clear (λ x. not (some (same x) ws))
          (λ x n. ap not (none-some (same x) ws (t.passes (λ y. not (same x y)) (some-none (same x) ys (not-true (some (same x) ys) n)))))
          zs
          (s.passes clear (and_right (distinct same xs && distinct same ys) (apart same xs ys) h)));
    }

-- an element is among the kept ones where it passes and is among all
pub some-same-keep : {A : Type 0} (same : A → A → Bool) → Decides same → (p : A → Bool) (x : A) (xs : List A) → some (same x) (keep p xs) ≡ (p x && some (same x) xs)
some-same-keep same dec p x xs =
    ⊎_elim
    (λ t. some-kept (same x) p (λ y v. cc (dec.sound x y v, t)) xs ∙ sym (rw t))
    (λ f.
    none-some (same x) (keep p xs)
    (every-mono p (λ y. not (same x y)) (λ y v. ap not (same-ne same dec x y (λ e. true≢false (cc (v, e, f))))) (keep p xs) (keep-passes p xs))
    ∙ sym (rw f))
    (true-or-false (p x))

-- the same of images, where the test is one of the images
pub some-same-keep-map : {A B : Type 0} (same : B → B → Bool) → Decides same → (p : B → Bool) (f : A → B) (y : B) (xs : List A)
    → some (same y) (map f (keep (λ x. p (f x)) xs)) ≡ (p y && some (same y) (map f xs))
some-same-keep-map same dec p f y xs = cc (keep-map p f xs, some-same-keep same dec p y (map f xs))

-- ---- the entry of an identifier, among entries whose identifiers, by f, are distinct

module _ {A B : Type 0} (same : B → B → Bool) (dec : Decides same) (f : A → B) (d : A) (x : B) (xs : List A) (h : first_index (same x) (map f xs) < length xs) where
  -- it has the identifier
  pub entry_here : same x (f (get_or xs (first_index (same x) (map f xs)) d)) ≡ true
  entry_here = cc (get_d_map f xs d (f d) (first_index (same x) (map f xs)) h, first-at (same x) (f d) (map f xs) (rw (length-map xs f) h))

  module _ (u : distinct same (map f xs) ≡ true) where
    -- no other has
    pub entry_other : (j : ℕ) → j < length xs → (j ≡ first_index (same x) (map f xs) → ⊥) → same x (f (get_or xs j d)) ≡ false
    entry_other j b n =
        same-ne same dec x (f (get_or xs j d))
        (λ e. n
        (distinct-at same dec (map f xs) (f d) u j (first_index (same x) (map f xs)) (rw (length-map xs f) b) (rw (length-map xs f) h)
        (cc (get_d_map f xs d (f d) j b, e, dec.sound x (f (get_or xs (first_index (same x) (map f xs)) d)) entry_here, get_d_map f xs d (f d) (first_index (same x) (map f xs)) h))))

    -- a change of it alone
    pub entry-change : (g : A → A) → map (λ y. cond (same x (f y)) (g y) y) xs ≡ set xs (first_index (same x) (map f xs)) (g (get_or xs (first_index (same x) (map f xs)) d))
    entry-change g =
        map-only (λ y. cond (same x (f y)) (g y) y) d (first_index (same x) (map f xs)) xs (λ j b n. rw (entry_other j b n))
        ∙ rw entry_here

    -- all but it
    pub entry-remove : keep (λ y. not (same x (f y))) xs ≡ delete_at (first_index (same x) (map f xs)) xs
    entry-remove =
        sym (delete-keep (λ y. not (same x (f y))) d (first_index (same x) (map f xs)) xs h (ap not entry_here) (λ j b n. ap not (entry_other j b n)))
