-- The members of a set, in the order of the objects' rows.
use Prim.Native.Nat.{ℕ, ◌<◌, ◌≤◌}
use mathlib.Core.Path.{◌≡◌, refl, sym, ap, ◌∙◌}
use mathlib.Core.Bool.{Bool, true, cond}
use mathlib.Core.List.{List, [], ◌∷◌, ◌++◌, map}
use mathlib.Core.Logic.{⊎_elim}
use native.Mathlib.Omega.{arith}
use borrow.Author.Tests.{ltb-true}
use lib.Dec.{ltb}
use lib.ListN.{length, get_or, length-map}
use Rattle.fields.specs.Fields.{encode}
use Rattle.lists.specs.Lists.{every, keep, among, tabulate}
use Rattle.lists.specs.Order.{rising}
use Rattle.lists.proofs.Tests.{true-or-false, and_left, and_right}
use Rattle.lists.proofs.Lists.{keep-map, length-keep, length-tabulate, map-map}
use Rattle.lists.proofs.Rising.{kept-rising}
use Rattle.table_columns.specs.Members.{has_member, member_rows}
use Rattle.table_columns.specs.declared.members.Members.{Members}
use Rattle.rules.specs.Entries.{Object}
use Rattle.rules.specs.Rules.{no_object, no_set}
use Rattle.rules.specs.Snapshot.{object_before, in_row}
use Rattle.table_view.specs.View.{set_count, objects_of, sets_of, members_at}
use Rattle.table_view.proofs.LiveRows.{objects-length}
use Rattle.table_view.proofs.MemberLaws.{object-member, row-ordered, row-size}
use Rattle.snapshot_rows.specs.Rows.{member_bytes_at, rising_oids, ObjectsSorted}
use Rattle.snapshot_rows.proofs.Writing.{row-map}

-- ---- rows of bytes

module _ {A : Type 0} where
  -- of what is kept: nothing where it is not
  row_keep : (bytes : A → List ℕ) (p : A → Bool) (xs : List A) → in_row bytes (keep p xs) ≡ in_row (λ x. cond (p x) (bytes x) []) xs
  unfolding in_row keep
  row_keep bytes p [] = refl
  row_keep bytes p (x ∷ xs) =
      ⊎_elim
      (λ t. rw t (ap (λ (l : List ℕ). bytes x ++ l) (row_keep bytes p xs)))
      (λ f. rw f (row_keep bytes p xs))
      (true-or-false (p x))

  -- of two functions that agree on what r passes
  row-alike : (f g : A → List ℕ) (r : A → Bool) → ((x : A) → r x ≡ true → f x ≡ g x) → (xs : List A) → every r xs ≡ true → in_row f xs ≡ in_row g xs
  unfolding in_row every
  row-alike f g r h [] t = refl
  row-alike f g r h (x ∷ xs) t = (λ u. h x (and_left (r x) (every r xs) t) u ++ row-alike f g r h xs (and_right (r x) (every r xs) t) u)

-- a set has no more members than bits
pub few-members : (m : Members) → length (member_rows m) ≤ 128
unfolding member_rows
few-members m = let k = length-keep (has_member m) (tabulate 128 (λ j. j)) in let n = length-tabulate 128 (λ (j : ℕ). j) in omega arith

module _ (ws rows : List ℕ) (t : ObjectsSorted ws rows) (i : ℕ) (h : i < set_count ws) where
  abbrev kept : List ℕ
  kept = keep (among (get_or (sets_of ws) i no_set).members) (rising_oids ws)

  -- the OIDs of the rows that are members
  pub members-row : in_row (member_bytes_at ws (members_at ws i)) rows ≡ in_row (encode 8) kept
  members-row =
      let oid : ℕ → ℕ = λ j. (get_or (objects_of ws) j no_object).oid in
      let member : ℕ → Bool = among (get_or (sets_of ws) i no_set).members in
      let n = objects-length ws in
      row-alike (member_bytes_at ws (members_at ws i)) (λ j. cond (member (oid j)) (encode 8 (oid j)) []) (λ j. ltb j (length (objects_of ws)))
      (λ j l.
      let b = ltb-true j (length (objects_of ws)) l in
      ap (λ (m : Bool). cond m (encode 8 (oid j)) []) (sym (object-member ws t.ids t.below i j h (omega arith)))) rows t.order.live
      ∙ sym (row-map (λ o. cond (member o) (encode 8 o) []) oid rows)
      ∙ sym (row_keep (encode 8) member (map oid rows))
      ∙ ap (λ (os : List ℕ). in_row (encode 8) (keep member os))
      (sym (map-map (λ (o : Object). o.oid) (λ j. get_or (objects_of ws) j no_object) rows) ∙ ap (map (λ (o : Object). o.oid)) t.order.rises)

  -- their number
  pub members-number : length (member_rows (members_at ws i)) ≡ length kept
  members-number =
      let member : ℕ → Bool = among (get_or (sets_of ws) i no_set).members in
      let oid : Object → ℕ = λ o. o.oid in
      let count : (os : List Object) → length (keep member (map oid os)) ≡ length (keep (λ o. member (oid o)) os) =
      λ os. ap length (keep-map member oid os) ∙ length-map (keep (λ o. member (oid o)) os) oid in
      sym (row-size ws i h)
      ∙ ap length (sym (row-ordered ws t.ids t.below i h))
      ∙ count (objects_of ws)
      ∙ sym (kept-rising object_before (λ o. member (oid o)) (objects_of ws))
      ∙ sym (count (rising object_before (objects_of ws)))
