-- The walk over the objects' rows that finds the members of a set, which stand in the order of the objects.
use Prim.Native.Nat.{ℕ, suc, ◌+◌, ◌*◌, ◌<◌, ◌≤◌}
use mathlib.Core.Path.{◌≡◌, refl, sym, ap, ◌∙◌}
use mathlib.Core.Bool.{Bool, true, false, cond, ◌&&◌, and-false}
use mathlib.Core.List.{List, [], ◌∷◌, ◌++◌, map, append-nil}
use mathlib.Core.Logic.{⊎_elim}
use native.Mathlib.Omega.{arith}
use native.Mathlib.Numerals.{add-one}
use borrow.Author.Tests.{eqb-true, eq-eqb, ne_eqb, lt-ltb, le-ltb, ltb-true}
use lib.Dec.{eqb, ltb}
use lib.ListN.{length, get_or, take, drop, length-drop, drop_of_length-le}
use lib.Seq.{drop-cons, take-suc, take_all}
use Rattle.fields.specs.Fields.{field}
use Rattle.kinds.proofs.Refusing.{true-false, by-test}
use Rattle.lists.specs.Lists.{keep, tabulate}
use Rattle.lists.proofs.Tests.{true-or-false, below_or_not, and_left, and_right}
use Rattle.lists.proofs.Lists.{keep-ext-on, every-tabulate, map-append, length-tabulate, get_d_tabulate}
use Rattle.table_columns.specs.Members.{has_member, member_rows, InWords, MemberPut}
use Rattle.table_columns.specs.declared.members.Members.{Members}
use Rattle.table_columns.proofs.members.Bits.{keep-next, below_holds, members-below}
use Rattle.table_columns.proofs.members.Making.{zero-member}
use Rattle.snapshot_reader.specs.ReadRows.{passed, in_order, members_in}

-- ---- members in the order of the objects

-- what a test keeps does not begin with an OID that it refuses
passed-kept : (p : ℕ → Bool) (o : ℕ) → p o ≡ false → (os : List ℕ) → passed o (keep p os) ≡ keep p os
unfolding keep
passed-kept p o h [] = refl
passed-kept p o h (x ∷ xs) =
    by-test (λ (l : List ℕ). passed o l ≡ l) (p x) (x ∷ keep p xs) (keep p xs)
    (λ t. rw (ne_eqb o x (λ e. true-false (sym t ∙ ap p (sym e) ∙ h))))
    (λ t. passed-kept p o h xs)

-- what a test keeps of OIDs stands in their order
pub kept-in-order : (p : ℕ → Bool) (os : List ℕ) → in_order os (keep p os) ≡ true
unfolding in_order keep
kept-in-order p [] = refl
kept-in-order p (o ∷ os) =
    ⊎_elim
    (λ (t : p o ≡ true). rw (t, eq-eqb o o refl) (kept-in-order p os))
    (λ (t : p o ≡ false). rw (t, passed-kept p o t os) (kept-in-order p os))
    (true-or-false (p o))

-- ---- the walk

-- a row that is no member is made none
pub put-again : (j : ℕ) (m : Members) → InWords m → has_member m j ≡ false → MemberPut j false m m
put-again j m w h =
    record {
      words = w;
      rows = λ i.
          by-test (λ (b : Bool). has_member m i ≡ b) (ltb j 128 && eqb i j) false (has_member m i)
          (λ t. ap (has_member m) (eqb-true i j (and_right (ltb j 128) (eqb i j) t)) ∙ h)
          (λ t. refl);
    }

-- the members below k are found at rows below j
pub record Walked (ids ms : List ℕ) (j k : ℕ) (m : Members) : Type 0 where
  pub place : k ≤ length ms
  pub order : in_order (drop j ids) (drop k ms) ≡ in_order ids ms
  pub values : map (λ i. get_or ids i 0) (keep (has_member m) (tabulate j (λ i. i))) ≡ take k ms
  pub none : (i : ℕ) → j ≤ i → has_member m i ≡ false

pub walk-begun : (ids ms : List ℕ) (m : Members) → m.low ≡ 0 → m.high ≡ 0 → Walked ids ms 0 0 m
unfolding tabulate keep
walk-begun ids ms m l h = record { place = omega arith; order = refl; values = refl; none = λ i b. zero-member m l h i }

-- the OID at row j is passed
passed-at : (ms : List ℕ) (k o : ℕ) → k ≤ length ms → passed o (drop k ms) ≡ drop (cond (ltb k (length ms) && eqb o (get_or ms k 0)) (k + 1) k) ms
passed-at ms k o h =
    ⊎_elim
    (λ (b : k < length ms).
    rw (lt-ltb k (length ms) b, drop-cons ms k 0 b)
    (⊎_elim
    (λ (t : eqb o (get_or ms k 0) ≡ true). rw (t, add-one k))
    (λ (t : eqb o (get_or ms k 0) ≡ false). rw t (sym (drop-cons ms k 0 b)))
    (true-or-false (eqb o (get_or ms k 0)))))
    (λ (b : length ms ≤ k). rw (le-ltb k (length ms) b, drop_of_length-le ms {i = k} b))
    (below_or_not k (length ms))

module _ (ids ms : List ℕ) (j k : ℕ) (m m' : Members) (member : Bool) (few : length ids ≤ 128) (h : j < length ids) (w : Walked ids ms j k m)
    (e : member ≡ (ltb k (length ms) && eqb (get_or ids j 0) (get_or ms k 0))) (put : MemberPut j member m m') where
  abbrev next : ℕ
  next = cond member (k + 1) k

  -- the rows but j are as they were, and row j is a member where the test says so
  other : (i : ℕ) → (i ≡ j → ⊥) → has_member m' i ≡ has_member m i
  other i d = rw (ne_eqb i j d, and-false (ltb j 128)) at (put.rows i)

  same : has_member m' j ≡ member
  same = rw (lt-ltb j 128 (omega arith), eq-eqb j j refl) at (put.rows j)

  step-place : next ≤ length ms
  step-place =
      ⊎_elim
      (λ (t : member ≡ true). let b = ltb-true k (length ms) (and_left (ltb k (length ms)) _ (sym e ∙ t)) in rw t (omega arith))
      (λ (t : member ≡ false). rw t w.place)
      (true-or-false member)

  step-order : in_order (drop (j + 1) ids) (drop next ms) ≡ in_order ids ms
  unfolding in_order
  step-order =
      let a : in_order (drop j ids) (drop k ms) ≡ in_order (drop (suc j) ids) (passed (get_or ids j 0) (drop k ms)) =
      ap (λ (l : List ℕ). in_order l (drop k ms)) (drop-cons ids j 0 h) in
      let b = ap (in_order (drop (suc j) ids)) (passed-at ms k (get_or ids j 0) w.place) in
      rw (add-one j, e) (sym (a ∙ b) ∙ w.order)

  step-values : map (λ i. get_or ids i 0) (keep (has_member m') (tabulate (j + 1) (λ i. i))) ≡ take next ms
  unfolding keep
  step-values =
      let f : ℕ → ℕ = λ i. get_or ids i 0 in
      let below : keep (has_member m') (tabulate j (λ i. i)) ≡ keep (has_member m) (tabulate j (λ i. i)) =
      keep-ext-on (λ i. ltb i j) (has_member m') (has_member m) (λ i t. let b = ltb-true i j t in other i (λ z. omega arith)) (tabulate j (λ i. i))
      (every-tabulate (λ i. ltb i j) j (λ i. i) (λ i b. lt-ltb i j b)) in
      let one : keep (has_member m') (j ∷ []) ≡ cond member (j ∷ []) [] = ap (λ (b : Bool). cond b (j ∷ []) []) same in
      ap (map f) (keep-next (has_member m') j ∙ (λ u. below u ++ one u))
      ∙ map-append f (keep (has_member m) (tabulate j (λ i. i))) (cond member (j ∷ []) [])
      ∙ ap (λ (l : List ℕ). l ++ map f (cond member (j ∷ []) [])) w.values
      ∙ ⊎_elim
      (λ (t : member ≡ true).
      let both = sym e ∙ t in
      let b = ltb-true k (length ms) (and_left (ltb k (length ms)) _ both) in
      let o = eqb-true (get_or ids j 0) (get_or ms k 0) (and_right (ltb k (length ms)) _ both) in
      rw (t, o, add-one k) (sym (take-suc ms k 0 b)))
      (λ (t : member ≡ false). rw t (append-nil (take k ms)))
      (true-or-false member)

  pub walk_step : Walked ids ms (j + 1) next m'
  walk_step =
      record {
        place = step-place;
        order = step-order;
        values = step-values;
        none = λ i b. other i (λ z. omega arith) ∙ w.none i (omega arith);
      }

-- the end of the walk
module _ (ids ms : List ℕ) (n k : ℕ) (m : Members) (e : n ≡ length ids) (b : n ≤ 128) (w : Walked ids ms n k m) where
  walk_left : eqb (length (drop k ms)) 0 ≡ in_order ids ms
  unfolding in_order
  walk_left = ap (λ (l : List ℕ). in_order l (drop k ms)) (sym (drop_of_length-le ids {i = n} (omega arith))) ∙ w.order

  -- all were found
  pub walk-found : k ≡ length ms → (in_order ids ms ≡ true) × (map (λ i. get_or ids i 0) (member_rows m) ≡ ms)
  walk-found z =
      let d = length-drop k ms in (
        sym walk_left ∙ eq-eqb (length (drop k ms)) 0 (omega arith),
        ap (map (λ i. get_or ids i 0)) (members-below n m (below_holds n m w.none) b) ∙ w.values ∙ take_all k ms (omega arith),
      )

  -- or not
  pub walk-missed : (k ≡ length ms → ⊥) → in_order ids ms ≡ false
  walk-missed z =
      let d = length-drop k ms in
      let p = w.place in
      sym walk_left ∙ ne_eqb (length (drop k ms)) 0 (omega arith)

-- ---- the members in a row's bytes

-- the test of member k, by its place
pub member-tested : (s : List ℕ) (n k o : ℕ) → (ltb k n && eqb o (field s (20 + 8 * k) 8)) ≡ (ltb k (length (members_in s n)) && eqb o (get_or (members_in s n) k 0))
member-tested s n k o =
    rw (length-tabulate n (λ i. field s (20 + 8 * i) 8))
    (⊎_elim
    (λ (h : k < n). rw (get_d_tabulate n (λ i. field s (20 + 8 * i) 8) 0 k h))
    (λ (h : n ≤ k). rw (le-ltb k n h))
    (below_or_not k n))
