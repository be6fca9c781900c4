-- What each edit of a row of objects, interfaces or sets makes of the live entries.
use Prim.Native.Nat.{ℕ, ◌+◌, ◌%◌, ◌^◌, ◌<◌}
use mathlib.Core.Path.{◌≡◌, refl, ap, ◌∙◌}
use mathlib.Core.List.{List, [], ◌∷◌, map}
use native.Mathlib.Omega.{arith}
use lib.ListN.{length, get_or, set}
use lib.Seq.{map-set_same}
use Rattle.kinds.specs.declared.Guid.{Guid}
use Rattle.lists.specs.Lists.{tabulate}
use Rattle.lists.proofs.Lists.{tabulate-ext, tabulate-get_or, map-tabulate}
use Rattle.table_columns.specs.Rows.{row_at}
use Rattle.table_columns.specs.Members.{member_rows}
use Rattle.table_columns.specs.declared.members.Members.{Members}
use Rattle.table_columns.proofs.members.Bits.{members-none}
use Rattle.table_columns.proofs.members.Making.{zero-member}
use Rattle.rules.specs.Entries.{with_next, Object, Interface, PingSet, heard_at, pinged_at, with_sequence, with_members, interface_places, set_places}
use Rattle.rules.specs.Rules.{make_set, no_object, no_interface, no_set}
use Rattle.table_words.specs.Kinds.{object_kind, interface_kind, set_kind}
use Rattle.table_view.specs.View.{object_count, interface_count, set_count, as_object, as_interface, as_set, objects_of, interfaces_of, sets_of, oids_of, member_values, clock_of, next_of, memory, view}
use Rattle.rules.specs.PingRows.{change_set}
use Rattle.table_edit.specs.Edits.{Only, Pushed, Pulled, Became, add_interface, add_set, drop_interface, drop_set, change_object, change_interface}
use Rattle.table_edit.proofs.KindRows.{live, only-stored, only-stored-two, live-stored, live-stored-two, made-pushed, made-pulled, made-changed}
use Rattle.table_edit.proofs.Views.{sets-kept, became-objects, became-interfaces, became-sets}

-- ---- rows that are entered, taken out, or changed

module _ (ws ws' : List ℕ) where
  -- an interface by its row
  interface-pushed : (n : ℕ) (r : List ℕ) → n ≡ interface_count ws → n < interface_places → Pushed interface_kind 4 n r ws ws' → Became (add_interface (as_interface r)) ws ws'
  unfolding interfaces_of
  interface-pushed n r e b p = became-interfaces ws ws' _ p.only (made-pushed interface_kind 4 as_interface ws ws' n e r p b)

  -- an interface by its fields
  pub interface-added : (n : ℕ) (ipid iid : Guid) (oid : ℕ) (cs : List ℕ) → length cs ≡ 9 → ((k : ℕ) → get_or cs k 0 < 2 ^ 32) → n ≡ interface_count ws → n < interface_places
      → Pushed interface_kind 4 n (ipid.low ∷ ipid.high ∷ iid.low ∷ iid.high ∷ oid ∷ tabulate 9 (λ k. get_or cs k 0)) ws ws'
      → Became (add_interface (record { ipid = ipid; iid = iid; object = oid; counts = cs })) ws ws'
  interface-added n ipid iid oid cs nine h e b q =
      let m : map (λ (w : ℕ). w % 2 ^ 32) (tabulate 9 (λ k. get_or cs k 0)) ≡ cs =
      map-tabulate (λ (w : ℕ). w % 2 ^ 32) 9 (λ k. get_or cs k 0)
      ∙ tabulate-ext 9 _ (λ k. get_or cs k 0) (λ k l. let z = h k in omega arith)
      ∙ rw (← nine) (tabulate-get_or cs 0) in
      rw m at (interface-pushed n _ e b q)

  -- an interface goes
  pub interface-pulled : (n i : ℕ) → n ≡ interface_count ws → Pulled interface_kind 4 n i ws ws' → Became (drop_interface i) ws ws'
  unfolding interfaces_of
  interface-pulled n i e p = became-interfaces ws ws' _ p.only (made-pulled interface_kind 4 as_interface ws ws' n e i p)

  -- an interface is changed
  pub interface-changed : (f : Interface → Interface) (i : ℕ) (r : List ℕ) → Only interface_kind 4 ws ws' → i < interface_count ws
      → live interface_kind 4 ws' ≡ set (live interface_kind 4 ws) i r → as_interface r ≡ f (as_interface (row_at interface_kind ws i)) → Became (change_interface i f) ws ws'
  unfolding interfaces_of
  interface-changed f i r o h e g = became-interfaces ws ws' _ o (made-changed interface_kind 4 as_interface ws ws' no_interface f i r h e g)

  -- a set by its row
  set-pushed : (n : ℕ) (r : List ℕ) → n ≡ set_count ws → n < set_places → Pushed set_kind 5 n r ws ws' → Became (add_set (as_set (oids_of ws) r)) ws ws'
  unfolding sets_of
  set-pushed n r e b p = became-sets ws ws' _ p.only (made-pushed set_kind 5 (as_set (oids_of ws)) ws ws' n e r p b)

  -- a set by its fields
  pub set-added : (n number q t : ℕ) (m : Members) → q < 65536 → n ≡ set_count ws → n < set_places → Pushed set_kind 5 n (number ∷ q ∷ t ∷ m.low ∷ m.high ∷ []) ws ws'
      → Became (add_set (record { number = number; sequence = q; pinged = t; members = member_values (oids_of ws) m })) ws ws'
  set-added n number q t m h e b p =
      let z : q % 65536 ≡ q = omega arith in
      rw z at (set-pushed n _ e b p)

  -- a set goes
  pub set-pulled : (n i : ℕ) → n ≡ set_count ws → Pulled set_kind 5 n i ws ws' → Became (drop_set i) ws ws'
  unfolding sets_of
  set-pulled n i e p = became-sets ws ws' _ p.only (made-pulled set_kind 5 (as_set (oids_of ws)) ws ws' n e i p)

  -- a set is changed
  pub set-changed : (f : PingSet → PingSet) (i : ℕ) (r : List ℕ) → Only set_kind 5 ws ws' → i < set_count ws
      → live set_kind 5 ws' ≡ set (live set_kind 5 ws) i r → as_set (oids_of ws) r ≡ f (as_set (oids_of ws) (row_at set_kind ws i)) → Became (change_set i f) ws ws'
  unfolding sets_of
  set-changed f i r o h e g = became-sets ws ws' _ o (made-changed set_kind 5 (as_set (oids_of ws)) ws ws' no_set f i r h e g)

  -- an object is changed, but for its OID
  pub object-changed : (f : Object → Object) (i : ℕ) (r : List ℕ) → ((x : Object) → (f x).oid ≡ x.oid) → Only object_kind 3 ws ws' → i < object_count ws
      → live object_kind 3 ws' ≡ set (live object_kind 3 ws) i r → as_object r ≡ f (as_object (row_at object_kind ws i)) → Became (change_object i f) ws ws'
  unfolding objects_of
  object-changed f i r same o h e g =
      let os = made-changed object_kind 3 as_object ws ws' no_object f i r h e g in
      became-objects ws ws' _ o os
      (sets-kept object_kind 3 ws ws' o refl (ap (map _) os ∙ map-set_same (λ (x : Object). x.oid) (objects_of ws) i _ no_object (same _)))

-- a new set: added with the next number, which then grows
pub set-made : (ws ws₁ ws₂ : List ℕ) (next clock : ℕ) → next ≡ next_of ws → clock ≡ clock_of ws
    → Became (add_set (record { number = next; sequence = 0; pinged = clock; members = member_values (oids_of ws) (record { low = 0; high = 0 }) })) ws ws₁
    → Became (with_next (next + 1)) ws₁ ws₂ → Became make_set ws ws₂
set-made ws ws₁ ws₂ next clock e f a b s =
    let none : Members = record { low = 0; high = 0 } in
    let z : member_rows none ≡ [] = members-none none (zero-member none refl refl) in
    b s
    ∙ ap (with_next (next + 1)) (rw z at (a s))
    ∙ (λ u. with_next (e u + 1) (add_set (record { number = e u; sequence = 0; pinged = f u; members = [] }) (view (memory ws s))))

-- ---- stores of words of a row

module _ (ws : List ℕ) (i : ℕ) (size : length ws ≡ 8192) where
  -- the time an object was heard
  pub heard-stored : (t : ℕ) → i < object_count ws → Became (change_object i (heard_at t)) ws (set ws (640 + i) t)
  unfolding row_at tabulate
  heard-stored t h =
      object-changed ws (set ws (640 + i) t) (heard_at t) i _ (λ x. refl)
      (only-stored object_kind 3 ws i 3 t (omega arith) (omega arith)) h
      (live-stored object_kind 3 ws i 3 t (omega arith) h (omega arith) (omega arith)) refl

  -- the time of a ping
  pub pinged-stored : (t : ℕ) → i < set_count ws → Became (change_set i (pinged_at t)) ws (set ws (128 + i) t)
  unfolding row_at tabulate
  pinged-stored t h =
      set-changed ws (set ws (128 + i) t) (pinged_at t) i _
      (only-stored set_kind 5 ws i 2 t (omega arith) (omega arith)) h
      (live-stored set_kind 5 ws i 2 t (omega arith) h (omega arith) (omega arith)) refl

  -- a sequence number
  pub sequence-stored : (q : ℕ) → q < 65536 → i < set_count ws → Became (change_set i (with_sequence q)) ws (set ws (96 + i) q)
  unfolding row_at tabulate
  sequence-stored q b h =
      let e : q % 65536 ≡ q = omega arith in
      set-changed ws (set ws (96 + i) q) (with_sequence q) i _
      (only-stored set_kind 5 ws i 1 q (omega arith) (omega arith)) h
      (live-stored set_kind 5 ws i 1 q (omega arith) h (omega arith) (omega arith)) (rw e)

  -- the members of a set
  pub members-stored : (m : Members) → i < set_count ws
      → Became (change_set i (with_members (member_values (oids_of ws) m))) ws (set (set ws (160 + i) m.low) (192 + i) m.high)
  unfolding row_at tabulate
  members-stored m h =
      set-changed ws (set (set ws (160 + i) m.low) (192 + i) m.high) (with_members (member_values (oids_of ws) m)) i _
      (only-stored-two set_kind 5 ws i 3 m.low 4 m.high (omega arith) (omega arith) (omega arith)) h
      (live-stored-two set_kind 5 ws i 3 m.low 4 m.high (omega arith) h (omega arith) (omega arith) (omega arith)) refl
