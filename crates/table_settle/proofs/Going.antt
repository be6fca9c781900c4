-- The loops by which entries go: the rows of a kind are gone through from the last to the first, and a row goes unless it stays.
use Prim.Native.Nat.{ℕ, zero, suc, ◌<◌, ◌≤◌}
use mathlib.Core.Path.{◌≡◌, refl, sym, ap, ◌∙◌}
use mathlib.Core.Bool.{Bool, true, false, cond, not}
use mathlib.Core.List.{List, [], ◌∷◌, map}
use mathlib.Core.Logic.{⊎_elim}
use native.Mathlib.Omega.{arith}
use borrow.Author.Tests.{eqb-true, ltb-true}
use lib.Dec.{eqb, ltb}
use lib.ListN.{length, get_or, set, drop, length-map, length-set}
use lib.Seq.{drop-length, drop-cons, drop-set-lt, get_or-set_same}
use Rattle.kinds.proofs.Refusing.{true-false}
use Rattle.lists.specs.Lists.{keep, every, some, distinct, delete_at, among, tabulate}
use Rattle.lists.proofs.Tests.{true-or-false, and_intro}
use Rattle.lists.proofs.Lists.{every-nil, every-from-at, every_map, every-mono, some-none, none-some, keep_all, keep-within, map-map, map-ext, get_d_map, map-delete, length-delete}
use Rattle.lists.proofs.Distinct.{eqb-decides, distinct-delete, among-delete, some_same, sublist-keep}
use Rattle.table_columns.specs.Rows.{row_at}
use Rattle.table_columns.specs.Members.{member_rows}
use Rattle.rules.specs.Entries.{Object, Interface, PingSet, Entries, count_of, with_count, oids, with_objects, with_interfaces, with_sets, with_members}
use Rattle.rules.specs.Sound.{held, set_members_live, pinged_within}
use Rattle.rules.specs.Rules.{no_object, no_interface, no_set, is_live_object, emptied}
use Rattle.rules.proofs.NothingGoes.{nothing-goes}
use Rattle.table_view.specs.View.{object_count, set_count, sets_of, memory, view, oids_of, members_at, members_below}
use Rattle.table_edit.specs.Edits.{drop_object, drop_interface, drop_set, change_interface}
use Rattle.table_view.proofs.LiveRows.{sets-length, set_at}
use Rattle.table_view.proofs.MemberRows.{oids-length, below_at}
use Rattle.table_settle.specs.Leaving.{stays, objects_left, interfaces_left, sets_left, cleared, held_left}
use Rattle.table_settle.proofs.ClientDrop.{clear-row, clear-all, row-cleared}
use Rattle.table_settle.specs.declared.Leaving.{Leaving}
use Rattle.table_settle.specs.declared.Leaving.TheVariants.{ExporterRemoved, NoInterface, Unheard}

-- ---- one row of a list

module _ {A : Type 0} (p : A → Bool) (d : A) where
  -- without a row that fails the same is kept
  keep-delete : (i : ℕ) (xs : List A) → i < length xs → p (get_or xs i d) ≡ false → keep p (delete_at i xs) ≡ keep p xs
  unfolding keep delete_at
  keep-delete i [] h f = absurd (omega arith)
  keep-delete zero (x ∷ xs) h f = rw f
  keep-delete (suc i) (x ∷ xs) h f = ap (λ (l : List A). cond (p x) (x ∷ l) l) (keep-delete i xs (omega arith) f)

  -- from a row that passes on, where all later ones do
  every_drop : (i : ℕ) (xs : List A) → i < length xs → p (get_or xs i d) ≡ true → every p (drop (suc i) xs) ≡ true → every p (drop i xs) ≡ true
  unfolding every
  every_drop i xs h t r = rw (drop-cons xs i d h) (and_intro (p (get_or xs i d)) (every p (drop (suc i) xs)) t r)

-- what stands from a row on once this row is out
drop-delete : {A : Type 0} (i : ℕ) (xs : List A) → i < length xs → drop i (delete_at i xs) ≡ drop (suc i) xs
unfolding delete_at
drop-delete i [] h = absurd (omega arith)
drop-delete zero (x ∷ xs) h = refl
drop-delete (suc i) (x ∷ xs) h = drop-delete i xs (omega arith)

-- ---- the rows of a kind

-- `whole` is what the loop comes to: it is still to come of the rows below i, and of those from i on all stay
pub record Going {A : Type 0} (rows : Entries → List A) (stay : Entries → A → Bool) (whole : Entries → Entries) (before : Entries) (i : ℕ) (e : Entries) : Type 0 where
  pub within : i ≤ length (rows e)
  pub rest : every (stay e) (drop i (rows e)) ≡ true
  pub same : whole e ≡ whole before

-- no row yet
pub going-none : {A : Type 0} (rows : Entries → List A) (stay : Entries → A → Bool) (whole : Entries → Entries) (e : Entries) (n : ℕ) → n ≡ length (rows e)
    → Going rows stay whole e n e
going-none rows stay whole e n h = record { within = omega arith; rest = rw (h, drop-length (rows e)) (every-nil (stay e)); same = refl }

module _ {A : Type 0} {rows : Entries → List A} {stay : Entries → A → Bool} {whole : Entries → Entries} {before e : Entries} {n : ℕ} where
  -- the row before row n
  module _ (d : A) (i : ℕ) (z : n ≡ suc i) (g : Going rows stay whole before n e) where
    row-within : i < length (rows e)
    row-within = let w = g.within in omega arith

    behind : every (stay e) (drop (suc i) (rows e)) ≡ true
    behind = rw z at g.rest

    -- stays
    pub going-stays : stay e (get_or (rows e) i d) ≡ true → Going rows stay whole before i e
    going-stays s =
        let h = row-within in
        record { within = omega arith; rest = every_drop (stay e) d i (rows e) h s behind; same = g.same }

    -- or is gone
    pub going-gone : (gone : Entries) → rows gone ≡ delete_at i (rows e) → stay gone ≡ stay e → (i < length (rows e) → whole gone ≡ whole e) → Going rows stay whole before i gone
    going-gone gone r t w =
        let h = row-within in
        let l = length-delete i (rows e) h in
        record { within = rw r (omega arith); rest = rw (r, t, drop-delete i (rows e) h) behind; same = w h ∙ g.same }

  -- every row
  pub going-all : n ≡ 0 → (every (stay e) (rows e) ≡ true → whole e ≡ e) → Going rows stay whole before n e → e ≡ whole before
  going-all z w g = sym (w (rw z at g.rest)) ∙ g.same

-- ---- interfaces

abbrev pub interface_stays : Entries → Interface → Bool
interface_stays e i = is_live_object e i.object

abbrev pub InterfacesGoing : Entries → ℕ → Entries → Type 0
InterfacesGoing = Going (λ e. e.interfaces) interface_stays interfaces_left

module _ (before e : Entries) (n : ℕ) (g : InterfacesGoing before n e) where
  pub interface-gone : (i : ℕ) → n ≡ suc i → is_live_object e (get_or e.interfaces i no_interface).object ≡ false → InterfacesGoing before i (drop_interface i e)
  interface-gone i z f =
      going-gone no_interface i z g (drop_interface i e) refl refl
      (λ h. ap (λ (l : List Interface). with_interfaces l e) (keep-delete (interface_stays e) no_interface i e.interfaces h f))

  pub interfaces-all : n ≡ 0 → e ≡ interfaces_left before
  interfaces-all z = going-all z (λ h. ap (λ (l : List Interface). with_interfaces l e) (keep_all (interface_stays e) e.interfaces h)) g

-- ---- interfaces without references

abbrev pub HeldGoing : Entries → ℕ → Entries → Type 0
HeldGoing = Going (λ e. e.interfaces) (λ e. held) held_left

module _ (before e : Entries) (n : ℕ) (g : HeldGoing before n e) where
  pub held-gone : (i : ℕ) → n ≡ suc i → held (get_or e.interfaces i no_interface) ≡ false → HeldGoing before i (drop_interface i e)
  held-gone i z f =
      going-gone no_interface i z g (drop_interface i e) refl refl
      (λ h. ap (λ (l : List Interface). with_interfaces l e) (keep-delete held no_interface i e.interfaces h f))

  pub held_all : n ≡ 0 → e ≡ held_left before
  held_all z = going-all z (λ h. ap (λ (l : List Interface). with_interfaces l e) (keep_all held e.interfaces h)) g

-- ---- a client's counts

-- the client's count is zero
abbrev pub none_of : ℕ → Interface → Bool
none_of c r = eqb (count_of (suc c) r) 0

abbrev pub Clearing : ℕ → Entries → ℕ → Entries → Type 0
Clearing c = Going (λ e. e.interfaces) (λ e. none_of c) (cleared c)

module _ (c : ℕ) (before e : Entries) (n : ℕ) (g : Clearing c before n e) where
  -- a row is cleared
  pub clearing-row : (i : ℕ) → n ≡ suc i → Clearing c before i (change_interface i (with_count (suc c) 0) e)
  clearing-row i z =
      let x = emptied c (get_or e.interfaces i no_interface) in
      let l = length-set e.interfaces i x in
      let w = g.within in
      let h : i < length (set e.interfaces i x) = omega arith in
      record {
        within = omega arith;
        rest =
            every_drop (none_of c) no_interface i (set e.interfaces i x) h
            (ap (none_of c) (get_or-set_same e.interfaces i x no_interface (omega arith)) ∙ row-cleared c (get_or e.interfaces i no_interface))
            (ap (every (none_of c)) (drop-set-lt (suc i) e.interfaces i x (omega arith)) ∙ (rw z at g.rest));
        same = clear-row c e i ∙ g.same;
      }

  pub clearing-all : n ≡ 0 → e ≡ cleared c before
  clearing-all z = going-all z (clear-all c e) g

-- ---- sets

abbrev pub SetsGoing : ℕ → Entries → ℕ → Entries → Type 0
SetsGoing t = Going (λ e. e.sets) (λ e. pinged_within t) (sets_left t)

module _ (t : ℕ) (before e : Entries) (n : ℕ) (g : SetsGoing t before n e) where
  pub set-gone : (i : ℕ) → n ≡ suc i → pinged_within t (get_or e.sets i no_set) ≡ false → SetsGoing t before i (drop_set i e)
  set-gone i z f =
      going-gone no_set i z g (drop_set i e) refl refl
      (λ h. ap (λ (l : List PingSet). with_sets l e) (keep-delete (pinged_within t) no_set i e.sets h f))

  pub sets-all : n ≡ 0 → e ≡ sets_left t before
  sets-all z = going-all z (λ h. ap (λ (l : List PingSet). with_sets l e) (keep_all (pinged_within t) e.sets h)) g

-- ---- objects

abbrev oid_of : Object → ℕ
oid_of o = o.oid

-- an object that fails a test, at a row of objects with distinct OIDs
module _ (p : Object → Bool) (e : Entries) (u : distinct eqb (oids e) ≡ true) (i : ℕ) (h : i < length e.objects) (f : p (get_or e.objects i no_object) ≡ false) where
  abbrev gone : ℕ
  gone = (get_or e.objects i no_object).oid

  abbrev left : List ℕ
  left = map oid_of (keep p (delete_at i e.objects))

  -- its OID is not among those that stay
  oid-gone : among left gone ≡ false
  oid-gone =
      let b : i < length (oids e) = rw (length-map e.objects oid_of) h in
      none-some (eqb gone) left
      ((sublist-keep oid_of p (delete_at i e.objects)).passes (λ n. not (eqb gone n))
      (some-none (eqb gone) (map oid_of (delete_at i e.objects))
      (ap (some (eqb gone)) (map-delete oid_of i e.objects)
      ∙ ap (λ (n : ℕ). some (eqb n) (delete_at i (oids e))) (sym (get_d_map oid_of e.objects no_object 0 i h))
      ∙ among-delete eqb eqb-decides (oids e) 0 i i u b b
      ∙ ap not (eqb-decides.self i))))

  -- so of the members that stay nothing is lost with it
  members-gone : (ms : List ℕ) → keep (among left) (keep (λ (n : ℕ). not (eqb n gone)) ms) ≡ keep (among left) ms
  members-gone =
      keep-within (λ (n : ℕ). not (eqb n gone)) (among left)
      (λ n a.
      ⊎_elim
      (λ t. absurd (true-false (sym a ∙ ap (among left) (eqb-true n gone t) ∙ oid-gone)))
      (λ q. ap not q)
      (true-or-false (eqb n gone)))

  object-gone : objects_left p (drop_object i e) ≡ objects_left p e
  object-gone =
      let cut : List Object → PingSet → PingSet = λ os s. with_members (keep (among (map oid_of os)) s.members) s in
      let os : List Object = keep p (delete_at i e.objects) in
      ap (λ (ss : List PingSet). with_sets ss (with_objects os e))
      (map-map (cut os) (λ (s : PingSet). with_members (keep (λ (n : ℕ). not (eqb n gone)) s.members) s) e.sets
      ∙ map-ext _ (cut os) (λ s. ap (λ (l : List ℕ). with_members l s) (members-gone s.members)) e.sets)
      ∙ ap (λ (l : List Object). with_sets (map (cut l) e.sets) (with_objects l e)) (keep-delete p no_object i e.objects h f)

-- whether an object stays does not depend on other objects
stays-kept : (w : Leaving) (i : ℕ) (e : Entries) → stays w (drop_object i e) ≡ stays w e
stays-kept (ExporterRemoved x) i e = refl
stays-kept NoInterface i e = refl
stays-kept (Unheard t) i e = refl

abbrev pub ObjectsGoing : Leaving → Entries → ℕ → Entries → Type 0
ObjectsGoing w = Going (λ e. e.objects) (stays w) (λ e. objects_left (stays w e) e)

module _ (w : Leaving) (before e : Entries) (n : ℕ) (g : ObjectsGoing w before n e) where
  pub object_leaves : (i : ℕ) → n ≡ suc i → distinct eqb (oids e) ≡ true → stays w e (get_or e.objects i no_object) ≡ false → ObjectsGoing w before i (drop_object i e)
  object_leaves i z u f =
      going-gone no_object i z g (drop_object i e) refl (stays-kept w i e)
      (λ h. ap (λ (p : Object → Bool). objects_left p (drop_object i e)) (stays-kept w i e) ∙ object-gone (stays w e) e u i h f)

  pub objects-all : n ≡ 0 → set_members_live e ≡ true → e ≡ objects_left (stays w before) before
  objects-all z l = going-all z (λ h. ap (with_interfaces e.interfaces) (nothing-goes (stays w e) (with_interfaces [] e) h (every-nil _) l)) g

-- OIDs stay distinct
pub distinct-left : (i : ℕ) (e : Entries) → distinct eqb (oids e) ≡ true → distinct eqb (oids (drop_object i e)) ≡ true
distinct-left i e u = rw (map-delete oid_of i e.objects) (distinct-delete eqb i (oids e) u)

-- members whose bits stand at live objects' rows are live objects
pub below-live : (ws s : List ℕ) → members_below ws ≡ true → set_members_live (view (memory ws s)) ≡ true
unfolding row_at tabulate
below-live ws s h =
    every-from-at (λ (p : PingSet). every (among (oids_of ws)) p.members) no_set (sets_of ws)
    (λ r b.
    let l = sets-length ws in
    let g : r < set_count ws = omega arith in
    ap (λ (p : PingSet). every (among (oids_of ws)) p.members) (set_at ws r no_set g)
    ∙ every_map (among (oids_of ws)) (λ j. get_or (oids_of ws) j 0) (member_rows (members_at ws r))
    ∙ every-mono (λ j. ltb j (object_count ws)) (λ j. among (oids_of ws) (get_or (oids_of ws) j 0))
    (λ j t.
    let n = oids-length ws in
    let a = ltb-true j (object_count ws) t in
    some_same eqb eqb-decides (oids_of ws) 0 j (omega arith))
    (member_rows (members_at ws r)) (below_at ws h r g))
