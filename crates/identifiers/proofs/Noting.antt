-- Laws of identifiers that are noted, from the last to the first.
use Prim.Native.Nat.{ℕ, zero, suc, ◌-◌, ◌<◌}
use mathlib.Core.Path.{◌≡◌, refl, sym, ap, ◌∙◌}
use mathlib.Core.Bool.{Bool, true, false, not, ◌&&◌, ◌||◌, and-false, or-true, true≢false}
use mathlib.Core.List.{List, [], ◌∷◌}
use mathlib.Core.Logic.{⊎_elim}
use native.Mathlib.Omega.{arith}
use borrow.Author.Tests.{eq-eqb, ne_eqb, not-true}
use lib.Dec.{eqb}
use lib.ListN.{length, get_or, set, drop, length-set}
use lib.Seq.{get_or-set_same, get_or-set_other}
use Rattle.lists.specs.Lists.{every, some, distinct}
use Rattle.lists.proofs.Tests.{true-or-false, and_intro, and_left, and_right}
use Rattle.lists.proofs.Lists.{every-nil, every-mono}
use Rattle.lists.proofs.Distinct.{Decides, distinct_cons}
use Rattle.table_columns.proofs.buckets.Absence.{absent, repeated}
use Rattle.identifiers.specs.Index.{noted, Filled, Put}

-- ---- lists

-- an element that fails
pub fails-at : {A : Type 0} (p : A → Bool) (i : ℕ) (ys : List A) {x : A} {xs : List A} → drop i ys ≡ x ∷ xs → p x ≡ false → every p ys ≡ false
unfolding every
fails-at p zero ys e f = rw (e, f)
fails-at p (suc i) [] e f = absurd (let z : ◌≡◌ {A = ℕ} 0 1 = cc in omega arith)
fails-at p (suc i) (y ∷ ys) e f = rw (fails-at p i ys e f) (and-false (p y))

-- ---- one identifier

module _ {rows rows' : List ℕ} {b k number : ℕ} (here : ℕ → Bool) (p : Put rows b k number rows') where
  -- one that is noted stays noted
  stays-noted : (f s : ℕ) → noted (get_or rows f 0) (get_or rows s 0) here ≡ true → noted (get_or rows' f 0) (get_or rows' s 0) here ≡ true
  unfolding noted
  stays-noted f s m =
      let n = and_left (not (eqb (get_or rows f 0) 0)) (not (eqb (get_or rows s 0) 0) || here (get_or rows f 0 - 1)) m in
      let e = p.stays f (not-true (eqb (get_or rows f 0) 0) n) in
      let o = and_right (not (eqb (get_or rows f 0) 0)) (not (eqb (get_or rows s 0) 0) || here (get_or rows f 0 - 1)) m in
      ⊎_elim
      (λ (z : eqb (get_or rows s 0) 0 ≡ true).
      let h : here (get_or rows f 0 - 1) ≡ true = rw z at o in
      rw e (and_intro (not (eqb (get_or rows f 0) 0)) (not (eqb (get_or rows' s 0) 0) || here (get_or rows f 0 - 1)) n (rw h (or-true (not (eqb (get_or rows' s 0) 0))))))
      (λ (z : eqb (get_or rows s 0) 0 ≡ false). rw (e, p.stays s z) m)
      (true-or-false (eqb (get_or rows s 0) 0))

  -- the one whose number is entered is noted, where its number leads to it or is 255
  now-noted : (number < 255 → here (number - 1) ≡ true) → noted (get_or rows' b 0) (get_or rows' k 0) here ≡ true
  unfolding noted
  now-noted h =
      and_intro (not (eqb (get_or rows' b 0) 0)) (not (eqb (get_or rows' k 0) 0) || here (get_or rows' b 0 - 1)) (ap not p.first)
      (⊎_elim
      (λ (z : eqb (get_or rows' k 0) 0 ≡ true). let q = p.second z in rw (q.0, h q.1) (or-true (not (eqb (get_or rows' k 0) 0))))
      (λ (z : eqb (get_or rows' k 0) 0 ≡ false). rw z)
      (true-or-false (eqb (get_or rows' k 0) 0)))

-- ---- numbers that are entered

module _ {rows : List ℕ} {k : ℕ} where
  -- the bucket had no number
  pub filled-now : (number : ℕ) → 0 < number → k < length rows → get_or rows k 0 ≡ 0 → Filled rows k (set rows k number)
  filled-now number p h e =
      record {
        size = length-set rows k number;
        stays = λ j n. get_or-set_other rows k j number 0 (λ s. true≢false (sym (eq-eqb (get_or rows j 0) 0 (rw s e)) ∙ n));
        taken = rw (get_or-set_same rows k number 0 h) (ne_eqb number 0 (λ z. omega arith));
      }

  -- it has one
  pub filled-before : (get_or rows k 0 ≡ 0 → ⊥) → Filled rows k rows
  filled-before n = record { size = refl; stays = λ j m. refl; taken = ne_eqb (get_or rows k 0) 0 n }

module _ {rows : List ℕ} {b k number : ℕ} where
  -- the first bucket is taken
  pub put_second : {rows' : List ℕ} → (get_or rows b 0 ≡ 0 → ⊥) → Filled rows k rows' → Put rows b k number rows'
  put_second n f =
      let t = ne_eqb (get_or rows b 0) 0 n in
      record { size = f.size; stays = f.stays; first = rw (f.stays b t) t; second = λ z. absurd (true≢false (sym z ∙ f.taken)) }

  -- it gets the number
  pub put_first : get_or rows b 0 ≡ 0 → 0 < number → b < length rows → number < 255 → Put rows b k number (set rows b number)
  put_first e p h l =
      let f = filled-now {rows = rows} {k = b} number p h e in record { size = f.size; stays = f.stays; first = f.taken; second = λ z. (get_or-set_same rows b number 0 h, l) }

  -- and the second too
  pub put_both : {rows' : List ℕ} → get_or rows b 0 ≡ 0 → 0 < number → b < length rows → Filled (set rows b number) k rows' → Put rows b k number rows'
  put_both e p h g =
      let f = filled-now {rows = rows} {k = b} number p h e in
      record {
        size = g.size ∙ f.size;
        stays = λ j n. let s = f.stays j n in g.stays j (rw s n) ∙ s;
        first = rw (g.stays b f.taken) f.taken;
        second = λ z. absurd (true≢false (sym z ∙ g.taken));
      }

-- ---- those from an index on

-- the elements xs are named and all of zs are different and noted
pub record Before {A : Type 0} (same : A → A → Bool) (nil : A) (p : A → Bool) (xs zs : List A) : Type 0 where
  pub named : every (λ x. not (same x nil)) xs ≡ true
  pub differ : distinct same zs ≡ true
  pub each : every p zs ≡ true

-- no element before ys
pub before-none : {A : Type 0} (same : A → A → Bool) (nil : A) (p : A → Bool) {xs ys zs : List A} → xs ≡ [] → zs ≡ ys → distinct same ys ≡ true → every p ys ≡ true
    → Before same nil p xs zs
before-none same nil p e f d m = record { named = rw e (every-nil (λ x. not (same x nil))); differ = rw f d; each = rw f m }

module _ {A : Type 0} (first second : A → ℕ) (here : A → ℕ → Bool) where
  -- the element x is noted
  abbrev pub is_noted : List ℕ → A → Bool
  is_noted rows x = noted (get_or rows (first x) 0) (get_or rows (second x) 0) (here x)

  module _ (same : A → A → Bool) (nil x : A) (rows : List ℕ) {xs zs : List A} {b k : ℕ} (m : Before same nil (is_noted rows) xs zs) (q : b ≡ first x) (r : k ≡ second x) where
    -- x is not noted, so that it is not among them
    pub unnoted : Decides same → {t : Bool} → t ≡ noted (get_or rows b 0) (get_or rows k 0) (here x) → t ≡ false → some (same x) zs ≡ false
    unnoted d e f = absent same d (is_noted rows) zs x m.each (rw (q, r) at (sym e ∙ f))

    -- it comes before them, where it is not nil and not among them
    pub before-one : {ys ws : List A} {rows' : List ℕ} {number : ℕ} → ys ≡ x ∷ xs → ws ≡ x ∷ zs → Put rows b k number rows' → (number < 255 → here x (number - 1) ≡ true)
        → same x nil ≡ false → some (same x) zs ≡ false → Before same nil (is_noted rows') ys ws
    unfolding every
    before-one {rows' = rows'} e f p h n d =
        record {
          named = rw e (and_intro (not (same x nil)) (every (λ y. not (same y nil)) xs) (ap not n) m.named);
          differ = rw f (distinct_cons same x zs d m.differ);
          each = rw f
              (and_intro (is_noted rows' x) (every (is_noted rows') zs) (rw (← q, ← r) (now-noted (here x) p h))
              (every-mono (is_noted rows) (is_noted rows') (λ y. stays-noted (here y) p (first y) (second y)) zs m.each));
        }

  -- the first bucket of each has a number
  pub each-indexed : (rows : List ℕ) (xs : List A) → every (is_noted rows) xs ≡ true → every (λ x. not (eqb (get_or rows (first x) 0) 0)) xs ≡ true
  unfolding noted
  each-indexed rows xs m =
      every-mono (is_noted rows) (λ x. not (eqb (get_or rows (first x) 0) 0))
      (λ x t. and_left (not (eqb (get_or rows (first x) 0) 0)) (not (eqb (get_or rows (second x) 0) 0) || here x (get_or rows (first x) 0 - 1)) t) xs m

-- ---- elements that are not proper

module _ {A : Type 0} (same : A → A → Bool) (nil : A) (i : ℕ) (xs zs : List A) {x : A} {later : List A} where
  -- one is nil
  pub not_named : drop i xs ≡ x ∷ later → same x nil ≡ true → (every (λ y. not (same y nil)) xs && distinct same zs) ≡ false
  not_named e t = let f : every (λ y. not (same y nil)) xs ≡ false = fails-at (λ y. not (same y nil)) i xs e (ap not t) in rw f

  -- one stands again after it
  pub not-different : drop i zs ≡ x ∷ later → some (same x) later ≡ true → (every (λ y. not (same y nil)) xs && distinct same zs) ≡ false
  not-different e t = rw (← repeated same i zs e t) (and-false (every (λ y. not (same y nil)) xs))
