-- The members of a set by the rows of the objects and by their OIDs.
use Prim.Native.Nat.{ℕ, ◌<◌, ◌≤◌}
use mathlib.Core.Path.{◌≡◌, sym, ap, ◌∙◌}
use mathlib.Core.Bool.{Bool, true, false, not, ◌&&◌, and-false}
use mathlib.Core.List.{List, [], map}
use mathlib.Core.Logic.{⊎_elim}
use native.Mathlib.Omega.{arith}
use borrow.Author.Tests.{eqb-true, eq-eqb, ltb-true, lt-ltb}
use lib.Dec.{eqb, ltb}
use lib.ListN.{length, get_or, length-map, get_or-eq_default}
use lib.Seq.{ext_get_or}
use Rattle.kinds.proofs.Refusing.{true-false}
use Rattle.lists.specs.Lists.{tabulate, keep, nonzero, distinct, among}
use Rattle.table_columns.specs.Members.{has_member, member_rows}
use Rattle.table_columns.specs.declared.members.Members.{Members}
use Rattle.lists.proofs.Tests.{true-or-false, below_or_not, and_left}
use Rattle.lists.proofs.Lists.{get_d_map, every-at, every-tabulate, some-map, some-keep, some-tabulate, none-some, keep-map, keep-ext-on, tabulate-get_or, map-tabulate}
use Rattle.lists.proofs.Distinct.{eqb-decides, distinct-at}
use Rattle.table_columns.proofs.members.Bits.{below_none, below_holds, members-below}
use Rattle.rules.specs.Sound.{proper}
use Rattle.rules.proofs.Groups.{fine-distinct}
use Rattle.rules.specs.Entries.{Object, PingSet, Ordered}
use Rattle.rules.specs.Rules.{no_object, no_set}
use Rattle.rules.proofs.SoundLaws.{sound-fields}
use Rattle.table_view.specs.View.{object_count, set_count, objects_of, sets_of, oids_of, member_values, memory, view, SoundTable, members_at, members_below}
use Rattle.table_view.proofs.LiveRows.{objects-length, sets-length}
use Rattle.table_view.proofs.MemberRows.{oids-length, below_at, row-members}
use Rattle.table_view.proofs.Steps.{sound-below}

module _ (ids : List ℕ) (p : proper ids ≡ true) where
  ids-nonzero : nonzero ids ≡ true
  ids-nonzero = and_left (nonzero ids) (distinct eqb ids) p

  pub ids-distinct : distinct eqb ids ≡ true
  ids-distinct = fine-distinct eqb 0 ids p

  -- an OID stands in no other row
  one-row : (k j : ℕ) → k < length ids → get_or ids k 0 ≡ get_or ids j 0 → j ≡ k
  one-row k j h e =
      ⊎_elim
      (λ (b : j < length ids). distinct-at eqb eqb-decides ids 0 ids-distinct j k b h (sym e))
      (λ (b : length ids ≤ j).
      absurd (true-false (sym (every-at (λ (n : ℕ). not (eqb n 0)) ids 0 k h ids-nonzero) ∙ ap not (eq-eqb (get_or ids k 0) 0 (e ∙ get_or-eq_default ids 0 b)))))
      (below_or_not j (length ids))

  -- the OID of a row is among the members' just where the row is a member
  pub member-among : (m : Members) (k : ℕ) → k < length ids → length ids ≤ 128 → among (member_values ids m) (get_or ids k 0) ≡ has_member m k
  unfolding member_rows
  member-among m k h l =
      some-map (eqb (get_or ids k 0)) (λ j. get_or ids j 0) (member_rows m)
      ∙ some-keep (λ j. eqb (get_or ids k 0) (get_or ids j 0)) (has_member m) (tabulate 128 (λ j. j))
      ∙ ⊎_elim
      (λ (t : has_member m k ≡ true). some-tabulate test 128 (λ j. j) k (omega arith) (rw (t, eqb-decides.self (get_or ids k 0))) ∙ sym t)
      (λ (f : has_member m k ≡ false). none-some test (tabulate 128 (λ j. j)) (every-tabulate (λ j. not (test j)) 128 (λ j. j) (λ j b. ap not (other f j))) ∙ sym f)
      (true-or-false (has_member m k))
    where
      test : ℕ → Bool
      test j = has_member m j && eqb (get_or ids k 0) (get_or ids j 0)

      other : has_member m k ≡ false → (j : ℕ) → test j ≡ false
      other f j =
          ⊎_elim
          (λ (t : eqb (get_or ids k 0) (get_or ids j 0) ≡ true). rw (one-row k j h (eqb-true _ _ t), f))
          (λ (t : eqb (get_or ids k 0) (get_or ids j 0) ≡ false). rw t (and-false (has_member m j)))
          (true-or-false (eqb (get_or ids k 0) (get_or ids j 0)))

  -- members below the number of OIDs are the OIDs that a test keeps, where the test says who is a member
  pub members_kept : (m : Members) (q : ℕ → Bool) → length ids ≤ 128 → ((j : ℕ) → length ids ≤ j → has_member m j ≡ false)
      → ((j : ℕ) → j < length ids → has_member m j ≡ q (get_or ids j 0)) → member_values ids m ≡ keep q ids
  members_kept m q l none same =
      let n = length ids in
      let value : ℕ → ℕ = λ j. get_or ids j 0 in
      ap (map value)
      (members-below n m (below_holds n m none) l
      ∙ keep-ext-on (λ j. ltb j n) (has_member m) (λ j. q (value j)) (λ j b. same j (ltb-true j n b)) (tabulate n (λ j. j)) (every-tabulate (λ j. ltb j n) n (λ j. j) (λ j b. lt-ltb j n b)))
      ∙ sym (keep-map q value (tabulate n (λ j. j)))
      ∙ ap (keep q) (map-tabulate value n (λ j. j) ∙ tabulate-get_or ids 0)

-- a set has as many members as member bits
pub row-size : (ws : List ℕ) (i : ℕ) → i < set_count ws → length (get_or (sets_of ws) i no_set).members ≡ length (member_rows (members_at ws i))
row-size ws i h = ap length (row-members ws i h) ∙ length-map (member_rows (members_at ws i)) (λ j. get_or (oids_of ws) j 0)

-- ---- the sets of a table whose OIDs are proper, and where every member bit stands at a live object's row

module _ (ws : List ℕ) (ids : proper (oids_of ws) ≡ true) (below : members_below ws ≡ true) where
  -- the members of a set, by its row
  abbrev listed : ℕ → List ℕ
  listed i = (get_or (sets_of ws) i no_set).members

  few : length (oids_of ws) ≤ 128
  few = let n = oids-length ws in omega arith

  -- an object's OID is a member just where its row is
  pub object-member : (i j : ℕ) → i < set_count ws → j < object_count ws → among (listed i) (get_or (objects_of ws) j no_object).oid ≡ has_member (members_at ws i) j
  object-member i j h g =
      let n = oids-length ws in
      let m = objects-length ws in
      ap (λ (ms : List ℕ). among ms (get_or (objects_of ws) j no_object).oid) (row-members ws i h)
      ∙ ap (among (member_values (oids_of ws) (members_at ws i))) (sym (get_d_map (λ (o : Object). o.oid) (objects_of ws) no_object 0 j (omega arith)))
      ∙ member-among (oids_of ws) ids (members_at ws i) j (omega arith) few

  -- the members stand in the order of the objects
  pub row-ordered : (i : ℕ) → i < set_count ws → keep (among (listed i)) (oids_of ws) ≡ listed i
  row-ordered i h =
      let n = oids-length ws in
      let m = members_at ws i in
      rw (row-members ws i h)
      (sym
      (members_kept (oids_of ws) ids m (among (member_values (oids_of ws) m)) few
      (λ j l. below_none (object_count ws) m (below_at ws below i h) j (omega arith))
      (λ j l. sym (member-among (oids_of ws) ids m j l few))))

-- of a sound table
pub table-ordered : (ws s : List ℕ) → SoundTable (memory ws s) → Ordered (view (memory ws s))
table-ordered ws s t =
    let f = sound-fields (view (memory ws s)) t.entries in
    let kept : PingSet → List ℕ = λ p. keep (among p.members) (oids_of ws) in
    let own : PingSet → List ℕ = λ p. p.members in
    let n = sets-length ws in
    let l = length-map (sets_of ws) kept in
    ext_get_or [] (map kept (sets_of ws)) (map own (sets_of ws)) (l ∙ sym (length-map (sets_of ws) own))
    (λ i h.
    let b : i < length (sets_of ws) = omega arith in
    get_d_map kept (sets_of ws) no_set [] i b
    ∙ row-ordered ws f.objects_proper (sound-below ws s t) i (omega arith)
    ∙ sym (get_d_map own (sets_of ws) no_set [] i b))
