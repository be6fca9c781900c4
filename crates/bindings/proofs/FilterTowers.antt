-- A filtered list goes by the requested towers that the list has.
use Prim.Native.Nat.{ℕ}
use mathlib.Core.Path.{◌≡◌, refl, sym, ap, ◌∙◌}
use mathlib.Core.Bool.{Bool, true, false, cond, not, ◌&&◌, and-false}
use mathlib.Core.List.{List, [], ◌∷◌, ◌++◌, map}
use mathlib.Core.Logic.{⊎_elim}
use native.Mathlib.Omega.{arith}
use borrow.Author.Tests.{eqb-true, eq-eqb}
use lib.Dec.{eqb}
use lib.ListN.{get_or, length-map}
use Rattle.lists.specs.Lists.{keep, among}
use Rattle.lists.proofs.Tests.{true-or-false}
use Rattle.lists.proofs.Lists.{every-from-at, some-keep, some_at, some-find, none-some, keep-ext-on, get_d_map}
use Rattle.bindings.specs.Bindings.{bindings_of, joined, is_bare, part_words}
use Rattle.bindings.specs.ListBytes.{parts_bytes}
use Rattle.bindings.specs.Filter.{requested, filtered, FilteredByTowers}
use Rattle.bindings.specs.declared.Part.TheVariants.{Strings, Security}

-- a number of a list is requested just where it is among the requested numbers of the list
module _ (xs ys : List ℕ) (y : ℕ) where
  test : ℕ → Bool
  test z = among xs z && eqb y z

  other : among xs y ≡ false → (z : ℕ) → test z ≡ false
  unfolding test
  other f z =
      ⊎_elim
      (λ (t : eqb y z ≡ true). rw (ap (among xs) (sym (eqb-true y z t)) ∙ f))
      (λ (n : eqb y z ≡ false). rw (n, and-false (among xs z)))
      (true-or-false (eqb y z))

  pub among-kept : among ys y ≡ true → among (keep (among xs) ys) y ≡ among xs y
  unfolding test
  among-kept h =
      some-keep (eqb y) (among xs) ys
      ∙ ⊎_elim
      (λ (t : among xs y ≡ true).
      let f = some-find (eqb y) 0 ys h in
      let e : y ≡ get_or ys f.0 0 = eqb-true _ _ f.2 in
      some_at test ys 0 f.0 f.1 (rw (← e, t, eq-eqb y y refl)) ∙ sym t)
      (λ (f : among xs y ≡ false). none-some test ys (every-from-at (λ z. not (test z)) 0 ys (λ j b. ap not (other f (get_or ys j 0)))) ∙ sym f)
      (true-or-false (among xs y))

-- elements are kept by the numbers that they have
kept-alike : {A : Type 0} (f : A → ℕ) (d : A) (xs : List ℕ) (es : List A) → keep (λ a. among (keep (among xs) (map f es)) (f a)) es ≡ keep (λ a. among xs (f a)) es
kept-alike {A} f d xs es =
    keep-ext-on (λ a. among (map f es) (f a)) (λ a. among (keep (among xs) (map f es)) (f a)) (λ a. among xs (f a)) (λ a h. among-kept xs (map f es) (f a) h) es
    (every-from-at (λ a. among (map f es) (f a)) d es
    (λ j b.
    let n = length-map es f in
    some_at (eqb (f (get_or es j d))) (map f es) 0 j (omega arith) (eq-eqb _ _ (sym (get_d_map f es d 0 j b)))))

pub filtered-by-towers : FilteredByTowers
unfolding filtered requested
filtered-by-towers protocols s =
    ap (λ (bs : List (List ℕ)). cond (is_bare s) s (parts_bytes (joined bs ++ (0 ∷ [])) (part_words s Security)))
    (kept-alike (λ (b : List ℕ). get_or b 0 0) [] protocols (bindings_of Strings (part_words s Strings)))
