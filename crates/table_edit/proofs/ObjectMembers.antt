-- What becomes of members, which are bits of a set's row, when an object is entered or goes.
use Prim.Native.Nat.{ℕ, ◌+◌, ◌-◌, ◌%◌, ◌<◌, ◌≤◌}
use mathlib.Core.Path.{◌≡◌, refl, sym, ap, ◌∙◌}
use mathlib.Core.Bool.{true, not}
use mathlib.Core.List.{List, [], ◌∷◌, ◌++◌, map}
use mathlib.Core.Logic.{inl, inr, ⊎_elim}
use native.Mathlib.Omega.{arith}
use borrow.Author.Tests.{ltb-true, eq-eqb, eqb-true}
use lib.Dec.{eqb, ltb}
use lib.ListN.{length, get_or, get_or-append}
use Rattle.kinds.proofs.Refusing.{same_test}
use Rattle.lists.specs.Lists.{tabulate, keep, distinct, delete_at}
use Rattle.table_columns.specs.Rows.{row_at, rows}
use Rattle.table_columns.specs.Members.{member_rows, Cut}
use Rattle.table_columns.specs.declared.members.Members.{Members}
use Rattle.lists.proofs.Lists.{keep-map, keep-ext-on, get_d_map, map-append, map-delete, map-ext-on, map-map, map-tabulate, tabulate-ext}
use Rattle.lists.proofs.Distinct.{eqb-decides, distinct-at}
use Rattle.table_columns.proofs.members.Bits.{below-cut, cut-values}
use Rattle.rules.specs.Entries.{Object, PingSet, with_members, object_places}
use Rattle.rules.specs.Rules.{no_object}
use Rattle.table_words.specs.Kinds.{object_kind, set_kind}
use Rattle.table_view.specs.View.{object_count, set_count, as_object, as_set, objects_of, sets_of, oids_of, member_values, members_at, members_below}
use Rattle.table_edit.specs.Edits.{Only, Pushed, Pulled, MembersCut, Became, add_object, drop_object}
use Rattle.table_view.proofs.LiveRows.{objects-length}
use Rattle.table_view.proofs.MemberRows.{Below, oids-length, below_at, below-from}
use Rattle.table_edit.proofs.KindRows.{live, live-kept, made-pushed, made-pulled}
use Rattle.table_edit.proofs.Views.{became-objects, exporters-kept, objects-kept, interfaces-kept}

-- ---- an object is entered

-- members below the number of OIDs are the same OIDs of a longer list
longer : (ids : List ℕ) (o : ℕ) (r : List ℕ) → Below (length ids) (record { low = get_or r 3 0; high = get_or r 4 0 }) ≡ true → as_set (ids ++ (o ∷ [])) r ≡ as_set ids r
longer ids o r h =
    let e =
    map-ext-on (λ j. ltb j (length ids)) (λ j. get_or (ids ++ (o ∷ [])) j 0) (λ j. get_or ids j 0)
    (λ j t. get_or-append ids (o ∷ []) 0 j (ltb-true j (length ids) t)) (member_rows (record { low = get_or r 3 0; high = get_or r 4 0 })) h in
    λ u. record { number = (as_set ids r).number; sequence = (as_set ids r).sequence; pinged = (as_set ids r).pinged; members = e u }

-- a row of the objects is entered, and the sets are the same
pub object-pushed : (ws ws' : List ℕ) (n : ℕ) (r : List ℕ) → n ≡ object_count ws → n < object_places → members_below ws ≡ true → Pushed object_kind 3 n r ws ws'
    → Became (add_object (as_object r)) ws ws'
unfolding objects_of sets_of members_below
object-pushed ws ws' n r e b h p =
    let os = made-pushed object_kind 3 as_object ws ws' n e r p b in
    let ids : oids_of ws' ≡ oids_of ws ++ (get_or r 0 0 ∷ []) = ap (map _) os ∙ map-append (λ (o : Object). o.oid) (objects_of ws) (as_object r ∷ []) in
    became-objects ws ws' _ p.only os
    ((λ u. map (as_set (ids u)) (live-kept object_kind 3 ws ws' p.only set_kind 5 refl u))
    ∙ map-ext-on (λ (q : List ℕ). Below (object_count ws) (record { low = get_or q 3 0; high = get_or q 4 0 })) _ _
    (λ q t. longer (oids_of ws) (get_or r 0 0) q (rw (oids-length ws) t)) (live set_kind 5 ws) h)

-- ---- an object goes

-- of distinct OIDs, those of the members but the one at k
left-members : (ids : List ℕ) (k : ℕ) (m r : Members) → Cut k m r → k < length ids → length ids ≤ object_places → distinct eqb ids ≡ true → Below (length ids) m ≡ true
    → member_values (delete_at k ids) r ≡ keep (λ o. not (eqb o (get_or ids k 0))) (member_values ids m)
left-members ids k m r c h l d b =
    cut-values k m r c 0 ids (omega arith)
    ∙ ap (map _)
    (keep-ext-on (λ j. ltb j (length ids)) (λ j. not (eqb j k)) (λ j. not (eqb (get_or ids j 0) (get_or ids k 0)))
    (λ j t.
    ap not
    (same_test (eqb j k) (eqb (get_or ids j 0) (get_or ids k 0))
    (λ e. eq-eqb (get_or ids j 0) (get_or ids k 0) (ap (λ (x : ℕ). get_or ids x 0) (eqb-true j k e)))
    (λ e. eq-eqb j k (distinct-at eqb eqb-decides ids 0 d j k (ltb-true j (length ids) t) h (eqb-true (get_or ids j 0) (get_or ids k 0) e)))))
    (member_rows m) b)
    ∙ sym (keep-map (λ o. not (eqb o (get_or ids k 0))) (λ j. get_or ids j 0) (member_rows m))

-- row i of the objects is taken out, and then bit i of the members
module _ (ws ws₁ ws₂ : List ℕ) (n i : ℕ) (e : n ≡ object_count ws) (h : i < n) (p : Pulled object_kind 3 n i ws ws₁) (c : MembersCut i ws₁ ws₂) where
  -- the cut is an edit of the sets
  cut-only : Only set_kind 5 ws₁ ws₂
  cut-only x d o = c.others x (⊎_elim (λ (z : x < 64). inl (omega arith)) (λ (z : 224 ≤ x). inr (omega arith)) o)

  -- a word of the sets but of their members is the same
  word_same : (x : ℕ) → (x ≡ 3 → ⊥) → x < 160 → get_or ws₂ x 0 ≡ get_or ws x 0
  word_same x d b = c.others x (inl b) ∙ p.only x d (inl (omega arith))

  -- one object less
  left-objects : objects_of ws₂ ≡ delete_at i (objects_of ws)
  unfolding objects_of
  left-objects = objects-kept set_kind 5 ws₁ ws₂ cut-only refl ∙ made-pulled object_kind 3 as_object ws ws₁ n e i p

  -- one less is counted
  left-count : object_count ws₂ ≡ n - 1
  left-count = let a = c.others 3 (inl (omega arith)) in let b = p.count in omega arith

  -- as many sets
  same_count : set_count ws₂ ≡ set_count ws
  same_count = let a = word_same 5 (omega arith) (omega arith) in omega arith

  -- at each live set
  left_cut : (r : ℕ) → r < set_count ws → Cut i (members_at ws r) (members_at ws₂ r)
  left_cut r b =
      let a = p.only 5 (omega arith) (inl (omega arith)) in
      let low = p.only (160 + r) (omega arith) (inl (omega arith)) in
      let high = p.only (192 + r) (omega arith) (inl (omega arith)) in
      rw (← low, ← high) (c.cut r (omega arith))

  module _ (b : members_below ws ≡ true) where
    -- the bits that are left stand at objects' rows
    pub pulled-below : members_below ws₂ ≡ true
    pulled-below =
        below-from ws₂
        (λ r l.
        let g : r < set_count ws = let q = same_count in omega arith in
        rw left-count (below-cut i (members_at ws r) (members_at ws₂ r) (left_cut r g) n h (rw e (below_at ws b r g))))

    -- a set without the object that goes
    left-set : distinct eqb (oids_of ws) ≡ true → (r : ℕ) → r < set_count ws
        → as_set (delete_at i (oids_of ws)) (row_at set_kind ws₂ r)
        ≡ with_members (keep (λ (o : ℕ). not (eqb o (get_or (oids_of ws) i 0))) (as_set (oids_of ws) (row_at set_kind ws r)).members) (as_set (oids_of ws) (row_at set_kind ws r))
    unfolding row_at tabulate
    left-set d r l =
        let z = oids-length ws in
        let a = word_same (64 + r) (omega arith) (omega arith) in
        let q = word_same (96 + r) (omega arith) (omega arith) in
        let t = word_same (128 + r) (omega arith) (omega arith) in
        let ms = left-members (oids_of ws) i (members_at ws r) (members_at ws₂ r) (left_cut r l) (omega arith) (omega arith) d (rw z (below_at ws b r l)) in
        λ u. record { number = a u; sequence = q u % 65536; pinged = t u; members = ms u }

    -- the object goes, and out of its sets
    pub object-pulled : distinct eqb (oids_of ws) ≡ true → Became (drop_object i) ws ws₂
    unfolding sets_of rows
    object-pulled d s =
        let z = objects-length ws in
        let oid = get_d_map (λ (o : Object). o.oid) (objects_of ws) no_object 0 i (omega arith) in
        let f : PingSet → PingSet = λ x. with_members (keep (λ (o : ℕ). not (eqb o (get_or (objects_of ws) i no_object).oid)) x.members) x in
        let ids : oids_of ws₂ ≡ delete_at i (oids_of ws) = ap (map _) left-objects ∙ map-delete (λ (o : Object). o.oid) i (objects_of ws) in
        let ss : sets_of ws₂ ≡ map f (sets_of ws) =
        rw (ids, same_count)
        (map-tabulate (as_set (delete_at i (oids_of ws))) (set_count ws) (row_at set_kind ws₂)
        ∙ tabulate-ext (set_count ws) _ (λ r. f (as_set (oids_of ws) (row_at set_kind ws r))) (λ r l. rw oid at (left-set d r l))
        ∙ sym (map-map f (as_set (oids_of ws)) (tabulate (set_count ws) (row_at set_kind ws)) ∙ map-tabulate (λ r. f (as_set (oids_of ws) r)) (set_count ws) (row_at set_kind ws))) in
        λ u. record {
          clock = word_same 0 (omega arith) (omega arith) u;
          next = word_same 1 (omega arith) (omega arith) u;
          exporters = (exporters-kept set_kind 5 ws₁ ws₂ cut-only refl s ∙ exporters-kept object_kind 3 ws ws₁ p.only refl s) u;
          objects = left-objects u;
          interfaces = (interfaces-kept set_kind 5 ws₁ ws₂ cut-only refl ∙ interfaces-kept object_kind 3 ws ws₁ p.only refl) u;
          sets = ss u;
        }
