-- The words of std for what lists say: what chains of iterators give.
use Rattle.std.proofs.Common.{◌≡◌, ℕ, zero, suc, ◌+◌, ◌-◌, ◌≤◌, Bool, true, false, cond, not, ◌&&◌, ◌||◌, eqb, List}
use Rattle.std.proofs.Common.{[], ◌∷◌, length, drop, Option, Some, refl, sym, ap, ◌∙◌, ⊎_elim, arith, rules, tests, lt-ltb, le-ltb, eq-eqb, ne_eqb}
use mathlib.Core.Bool.{or_assoc}
use Rattle.std.specs.List.{list_all, list_any, position_or_len, position, find, fold, range_with_len}
use Rattle.std.specs.Option.{unwrap_or, option_map}
use Rattle.std.proofs.lemmas.Iterator.Adapters.{option_map_id}
use Rattle.lists.specs.Lists.{every, some, first_index, among, tabulate}
use Rattle.lists.proofs.Tests.{same_or_not, below_or_not}
use Rattle.lists.proofs.First.{first-le}
use Rattle.table_columns.proofs.Loops.{table_step, table-end}

module _ {A : Type 0} (p : A → Bool) where
  -- `all`
  pub list_all-every : (xs : List A) → list_all p xs ≡ every p xs
  unfolding every
  list_all-every [] = refl
  list_all-every (x ∷ xs) = ap (λ (b : Bool). p x && b) (list_all-every xs)

  -- `partition_point`
  pub position-first : (xs : List A) → position_or_len p xs ≡ first_index p xs
  unfolding first_index
  position-first [] = refl
  position-first (x ∷ xs) = ap (λ (n : ℕ). cond (not (p x)) (1 + n) 0) (position-first xs) ∙ turned (p x) (first_index p xs)
    where
      turned : (b : Bool) (n : ℕ) → cond (not b) (1 + n) 0 ≡ cond b 0 (suc n)
      turned true n = refl
      turned false n = omega arith

  -- `position`, and the length where it finds none
  pub found-first : (xs : List A) {o : Option ℕ} → o ≡ position p xs → unwrap_or o (length xs) ≡ first_index p xs
  found-first xs e =
      ap (λ (o : Option ℕ). unwrap_or o (length xs)) e
      ∙ ⊎_elim
      (λ h. rw (lt-ltb (position_or_len p xs) (length xs) h) (position-first xs))
      (λ h. rw (le-ltb (position_or_len p xs) (length xs) h) (let l = first-le p xs in let f = position-first xs in omega arith))
      (below_or_not (position_or_len p xs) (length xs))

-- `contains`
pub any-among : (x : ℕ) (xs : List ℕ) → list_any (λ y. eqb y x) xs ≡ among xs x
unfolding some
any-among x [] = refl
any-among x (y ∷ ys) = rw (any-among x ys, turned)
  where
    turned : eqb y x ≡ eqb x y
    turned = ⊎_elim (λ e. eq-eqb y x e ∙ sym (eq-eqb x y (sym e))) (λ d. ne_eqb y x d ∙ sym (ne_eqb x y (λ e. d (sym e)))) (same_or_not y x)

-- ---- a chain over the indices of a table, from a on

module _ {A : Type 0} (p : A → Bool) (f : ℕ → A) (n : ℕ) where
  -- `all`
  pub all-table : (a k : ℕ) → n - a ≡ k → list_all (λ i. p (f i)) (range_with_len a k) ≡ every p (drop a (tabulate n f))
  unfolding every
  all-table a zero e = rw (table-end n f a (omega arith))
  all-table a (suc k) e = rw (table_step n f a (omega arith)) (ap (λ (b : Bool). p (f a) && b) (all-table (a + 1) k (omega arith)))

  -- `fold` by a test, without an early end
  pub fold-table : (b : Bool) (a k : ℕ) → n - a ≡ k → fold (λ c i. c || p (f i)) b (range_with_len a k) ≡ (b || some p (drop a (tabulate n f)))
  unfolding some
  fold-table b a zero e = rw (table-end n f a (omega arith)) (search (rules, tests))
  fold-table b a (suc k) e = rw (table_step n f a (omega arith)) (fold-table (b || p (f a)) (a + 1) k (omega arith) ∙ or_assoc b (p (f a)) (some p (drop (a + 1) (tabulate n f))))

  found-from : (a k : ℕ) → n - a ≡ k → unwrap_or (find (λ i. p (f i)) (range_with_len a k)) (a + k) ≡ a + first_index p (drop a (tabulate n f))
  unfolding first_index
  found-from a zero e = rw (table-end n f a (omega arith))
  found-from a (suc k) e = rw (table_step n f a (omega arith)) (by (p (f a)) (found-from (a + 1) k (omega arith)))
    where
      by : (b : Bool) → unwrap_or (find (λ i. p (f i)) (range_with_len (a + 1) k)) (a + 1 + k) ≡ a + 1 + first_index p (drop (a + 1) (tabulate n f))
          → unwrap_or (cond b (Some a) (find (λ i. p (f i)) (range_with_len (a + 1) k))) (a + suc k) ≡ a + cond b 0 (suc (first_index p (drop (a + 1) (tabulate n f))))
      by true h = omega arith
      by false h = let e : a + suc k ≡ a + 1 + k = omega arith in rw e (h ∙ omega arith)

  -- `find`, and n where it finds none
  pub found-table : (a : ℕ) (o : Option ℕ) → a ≤ n → option_map (λ x. x) o ≡ find (λ i. p (f i)) (range_with_len a (n - a)) → unwrap_or o n ≡ a + first_index p (drop a (tabulate n f))
  found-table a o h e =
      let l : a + (n - a) ≡ n = omega arith in
      ap (λ (w : Option ℕ). unwrap_or w n) (sym (option_map_id o) ∙ e) ∙ rw l at (found-from a (n - a) refl)
