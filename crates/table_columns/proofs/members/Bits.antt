-- Laws of members, and of the rows that are members.
use Rattle.std.proofs.Common.{◌≡◌, ℕ, zero, suc, ◌+◌, ◌-◌, ◌^◌, ◌<◌, ◌≤◌, Bool, true, false, not, ◌||◌, eqb, ltb, List, [], ◌∷◌, ◌++◌, map, get_or, sym, refl, ap, ◌∙◌, ⊎_elim, true≢false, append-nil, add-one, arith, le-ltb, lt-ltb, eq-eqb, ne_eqb}
use mathlib.Core.Bool.{or-true, or-false}
use borrow.Author.Tests.{not-true}
use Rattle.lists.specs.Lists.{keep, every, tabulate, delete_at, skip}
use Rattle.table_columns.specs.Members.{bit_of, has_member, member_rows, Cut}
use Rattle.table_columns.specs.declared.members.Members.{Members}
use Rattle.lists.proofs.Tests.{true-or-false, below_or_not}
use Rattle.lists.proofs.Lists.{every-keep, keep-ext, keep-nil, keep-no, keep_append, keep-map, keep-comm, map-ext, map-map, skip-from, get_or-delete, delete-tabulate, delete-keep}
use Rattle.lists.proofs.Lists.{length-tabulate, get_d_tabulate, tabulate-snoc, map-tabulate, every-tabulate, every-tabulate-at}
use Rattle.table_columns.proofs.members.WordBits.{bit_past}

module _ (m : Members) where
  -- a row below 64 is a bit of the low word
  pub member-low : (j : ℕ) → j < 64 → has_member m j ≡ bit_of m.low j
  unfolding has_member
  member-low j h = rw (lt-ltb j 64 h)

  -- a row from 64 to 127 is a bit of the high word
  pub member-high : (j : ℕ) → 64 ≤ j → j < 128 → has_member m j ≡ bit_of m.high (j - 64)
  unfolding has_member
  member-high j h b = rw (le-ltb j 64 h, lt-ltb j 128 b)

  -- a row of 128 or more is no member
  pub member-past : (j : ℕ) → 128 ≤ j → has_member m j ≡ false
  unfolding has_member
  member-past j h = rw (le-ltb j 64 (omega arith), le-ltb j 128 h)

  -- from 64 on, a member is a bit of the high word
  pub member-from : m.high < 2 ^ 64 → (j : ℕ) → 64 ≤ j → has_member m j ≡ bit_of m.high (j - 64)
  member-from f j h =
      ⊎_elim
      (λ (b : j < 128). member-high j h b)
      (λ (b : 128 ≤ j). member-past j b ∙ sym (bit_past m.high 64 (j - 64) f (omega arith)))
      (below_or_not j 128)

-- one row is a member of both or of none
pub member-same : (m r : Members) (i : ℕ) → (i < 64 → bit_of r.low i ≡ bit_of m.low i) → (64 ≤ i → bit_of r.high (i - 64) ≡ bit_of m.high (i - 64)) → has_member r i ≡ has_member m i
member-same m r i f g =
    ⊎_elim
    (λ (h : i < 64). member-low r i h ∙ f h ∙ sym (member-low m i h))
    (λ (h : 64 ≤ i).
    ⊎_elim
    (λ (b : i < 128). member-high r i h b ∙ g h ∙ sym (member-high m i h b))
    (λ (b : 128 ≤ i). member-past r i b ∙ sym (member-past m i b))
    (below_or_not i 128))
    (below_or_not i 64)

-- ---- the rows that are members

-- what is kept of n numbers and one more
pub keep-next : (p : ℕ → Bool) (n : ℕ) → keep p (tabulate (n + 1) (λ j. j)) ≡ keep p (tabulate n (λ j. j)) ++ keep p (n ∷ [])
keep-next p n = rw (add-one n, tabulate-snoc n (λ j. j)) (keep_append p (tabulate n (λ j. j)) (n ∷ []))

-- numbers from n on that fail the test change nothing
keep-to : (p : ℕ → Bool) (n d : ℕ) → ((j : ℕ) → n ≤ j → p j ≡ false) → keep p (tabulate (n + d) (λ j. j)) ≡ keep p (tabulate n (λ j. j))
keep-to p n zero h = let e : n + 0 ≡ n = omega arith in rw e
keep-to p n (suc d) h =
    let e : n + suc d ≡ n + d + 1 = omega arith in
    rw e
    (keep-next p (n + d)
    ∙ ap (λ (l : List ℕ). keep p (tabulate (n + d) (λ j. j)) ++ l) (keep-no p (n + d) [] (h (n + d) (omega arith)) ∙ keep-nil p)
    ∙ append-nil (keep p (tabulate (n + d) (λ j. j)))
    ∙ keep-to p n d h)

-- no rows
pub members-none : (m : Members) → ((i : ℕ) → has_member m i ≡ false) → member_rows m ≡ []
unfolding member_rows tabulate
members-none m h = keep-to (has_member m) 0 128 (λ j b. h j) ∙ keep-nil (has_member m)

-- every member is below n
module _ (n : ℕ) (m : Members) where
  -- the test of every member is a test of every row
  below-tests : every (λ j. ltb j n) (member_rows m) ≡ every (λ j. not (has_member m j) || ltb j n) (tabulate 128 (λ j. j))
  unfolding member_rows
  below-tests = every-keep (λ j. ltb j n) (has_member m) (tabulate 128 (λ j. j))

  -- no row from n on is a member
  pub below_holds : ((j : ℕ) → n ≤ j → has_member m j ≡ false) → every (λ j. ltb j n) (member_rows m) ≡ true
  below_holds h =
      below-tests
      ∙ every-tabulate (λ j. not (has_member m j) || ltb j n) 128 (λ j. j)
      (λ j b.
      ⊎_elim
      (λ (t : j < n). rw (lt-ltb j n t) (or-true (not (has_member m j))))
      (λ (t : n ≤ j). rw (h j t))
      (below_or_not j n))

  -- a row from n on is no member
  pub below_none : every (λ j. ltb j n) (member_rows m) ≡ true → (j : ℕ) → n ≤ j → has_member m j ≡ false
  below_none h j b =
      ⊎_elim
      (λ (t : j < 128).
      let e = every-tabulate-at (λ j. not (has_member m j) || ltb j n) 128 (λ j. j) j t (sym below-tests ∙ h) in
      not-true (has_member m j) (sym (or-false (not (has_member m j))) ∙ rw (le-ltb j n b) at e))
      (λ (t : 128 ≤ j). member-past m j t)
      (below_or_not j 128)

  -- a row from n on is a member
  pub below_fails : (j : ℕ) → n ≤ j → has_member m j ≡ true → every (λ j. ltb j n) (member_rows m) ≡ false
  below_fails j h e =
      ⊎_elim (λ t. absurd (true≢false (sym e ∙ below_none t j h))) (λ f. f) (true-or-false (every (λ j. ltb j n) (member_rows m)))

  -- members below n are kept of the first n rows
  pub members-below : every (λ j. ltb j n) (member_rows m) ≡ true → n ≤ 128 → member_rows m ≡ keep (has_member m) (tabulate n (λ j. j))
  unfolding member_rows
  members-below h b =
      let e : 128 ≡ n + (128 - n) = omega arith in
      ap (λ (x : ℕ). keep (has_member m) (tabulate x (λ j. j))) e ∙ keep-to (has_member m) n (128 - n) (below_none h)

  -- every member is below 128
  pub below-past : 128 ≤ n → true ≡ every (λ j. ltb j n) (member_rows m)
  below-past h = sym (below_holds (λ j b. member-past m j (omega arith)))

-- ---- members that change

module _ (k : ℕ) (m r : Members) (c : Cut k m r) where
  -- members below n are below n - 1 once a row is taken out
  pub below-cut : (n : ℕ) → k < n → every (λ i. ltb i n) (member_rows m) ≡ true → every (λ i. ltb i (n - 1)) (member_rows r) ≡ true
  below-cut n h b =
      below_holds (n - 1) r
      (λ i d. let s = skip-from k i (omega arith) in c.member i ∙ below_none n m b (skip k i) (omega arith))

  -- the numbers from 0 on without k
  without : k < 129 → map (skip k) (tabulate 128 (λ j. j)) ≡ keep (λ j. not (eqb j k)) (tabulate 129 (λ j. j))
  without h =
      let l = length-tabulate 129 (λ j. j) in
      map-tabulate (skip k) 128 (λ j. j)
      ∙ sym (delete-tabulate 128 k (λ j. j) (omega arith))
      ∙ delete-keep (λ j. not (eqb j k)) 0 k (tabulate 129 (λ j. j)) (omega arith)
      (ap (λ (n : ℕ). not (eqb n k)) (get_d_tabulate 129 (λ j. j) 0 k h) ∙ ap not (eq-eqb k k refl))
      (λ j b d. ap (λ (n : ℕ). not (eqb n k)) (get_d_tabulate 129 (λ j. j) 0 j (omega arith)) ∙ ap not (ne_eqb j k d))

  -- the rows that are left, as they were numbered before
  pub members-cut : k < 128 → map (skip k) (member_rows r) ≡ keep (λ j. not (eqb j k)) (member_rows m)
  unfolding member_rows
  members-cut h =
      ap (map (skip k)) (keep-ext (has_member r) (λ j. has_member m (skip k j)) c.member (tabulate 128 (λ j. j)))
      ∙ sym (keep-map (has_member m) (skip k) (tabulate 128 (λ j. j)))
      ∙ ap (keep (has_member m)) (without (omega arith))
      ∙ keep-comm (has_member m) (λ j. not (eqb j k)) (tabulate 129 (λ j. j))
      ∙ ap (keep (λ j. not (eqb j k))) (keep-to (has_member m) 128 1 (λ j b. member-past m j b))

  -- what stands at the rows that are left, once row k is taken out of the list
  pub cut-values : {A : Type 0} (d : A) (xs : List A) → k < 128 → map (λ j. get_or (delete_at k xs) j d) (member_rows r) ≡ map (λ j. get_or xs j d) (keep (λ j. not (eqb j k)) (member_rows m))
  cut-values d xs h =
      map-ext (λ j. get_or (delete_at k xs) j d) (λ j. get_or xs (skip k j) d) (get_or-delete k xs d) (member_rows r)
      ∙ sym (map-map (λ j. get_or xs j d) (skip k) (member_rows r))
      ∙ ap (map (λ j. get_or xs j d)) (members-cut h)
