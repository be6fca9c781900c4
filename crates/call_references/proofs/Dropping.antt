-- What an interface's going leaves: everything, where its object is still served; else all but this object.
use Prim.Native.Nat.{ℕ, ◌<◌}
use mathlib.Core.Path.{◌≡◌, sym, ap, ◌∙◌}
use mathlib.Core.Bool.{Bool, true, false, not, and-true, true≢false}
use mathlib.Core.List.{List, map}
use mathlib.Core.Logic.{⊎_elim}
use native.Mathlib.Omega.{arith}
use borrow.Author.Tests.{eq-eqb, eqb-true, ltb-true}
use lib.Dec.{eqb}
use lib.ListN.{length, get_or, set}
use lib.Seq.{get_or-set_same, map-set_same}
use Rattle.lists.specs.Lists.{keep, every, some, distinct, among}
use Rattle.lists.proofs.Tests.{true-or-false}
use Rattle.lists.proofs.Lists.{every-at, every-mono, every-mono-on, every_set, every-delete, some-find, some-none, some-delete, keep_all, keep-ext-on, map-ext-on}
use Rattle.lists.proofs.Distinct.{eqb-decides, same-comm, some-same-keep-map, entry_here, entry-remove}
use Rattle.rules.specs.Entries.{Object, Interface, PingSet, Entries, oids, object_row, with_objects, with_interfaces, with_sets, with_members}
use Rattle.rules.specs.Sound.{proper, has_interface, interface_objects_live, set_members_live}
use Rattle.rules.specs.Rules.{no_object, no_interface, is_live_object}
use Rattle.rules.proofs.Groups.{serving-objects}
use Rattle.rules.proofs.ByRow.{object-live}
use Rattle.rules.proofs.NothingGoes.{nothing-goes}
use Rattle.table_view.specs.View.{object_count, interface_count, memory, view, interfaces_of, objects_of, Holds, oids_of, members_live_in, members_below}
use Rattle.table_view.proofs.LiveRows.{objects-length, interfaces-length}
use Rattle.table_edit.specs.Edits.{Became, drop_object, drop_interface, change_interface}
use Rattle.table_settle.proofs.Settling.{asked}
use Rattle.table_settle.specs.Leaving.{without_leaving}
use Rattle.call_references.specs.Dropping.{Serves, InterfaceDropped}
use Rattle.table_settle.specs.declared.Leaving.TheVariants.{NoInterface}

-- some interface is of an object
abbrev served : ℕ → List Interface → Bool
served n is = some (λ (p : Interface). eqb n p.object) is

abbrev oid_of : Object → ℕ
oid_of o = o.oid

-- whatever counts are stored in the row, who serves whom stays
pub serves-counted : (i object : ℕ) (f : Interface → Interface) (e : Entries) → ((p : Interface) → (f p).object ≡ p.object) → i < length e.interfaces → Serves i object e
    → Serves i object (change_interface i f e)
serves-counted i object f e same h k =
    let x : Interface = f (get_or e.interfaces i no_interface) in
    record {
      its = k.its ∙ sym (ap (λ (p : Interface). p.object) (get_or-set_same e.interfaces i x no_interface h) ∙ same _);
      named =
          every_set (λ (p : Interface). among (oids e) p.object) e.interfaces i x k.named
          (ap (among (oids e)) (same _) ∙ every-at (λ (p : Interface). among (oids e) p.object) e.interfaces no_interface i h k.named);
      serving =
          sym (serving-objects e.objects (set e.interfaces i x))
          ∙ ap (λ (l : List ℕ). every (among l) (oids e)) (map-set_same (λ (p : Interface). p.object) e.interfaces i x no_interface (same _))
          ∙ serving-objects e.objects e.interfaces
          ∙ k.serving;
    }

module _ (i object : ℕ) (e : Entries) (k : Serves i object e) (h : i < length e.interfaces) where
  abbrev left : Entries
  left = drop_interface i e

  -- the object is live
  its-live : is_live_object e object ≡ true
  its-live = ap (among (oids e)) k.its ∙ every-at (λ (p : Interface). among (oids e) p.object) e.interfaces no_interface i h k.named

  its-row : object_row e object < length e.objects
  its-row = ltb-true _ _ (sym (object-live e object) ∙ its-live)

  -- another object still has an interface
  other-served : (n : ℕ) → eqb object n ≡ false → served n e.interfaces ≡ true → served n left.interfaces ≡ true
  other-served n f t =
      let q : Interface → Bool = λ (p : Interface). eqb n p.object in
      let r = some-find q no_interface e.interfaces t in
      some-delete q no_interface i r.0 e.interfaces h r.1
      (λ z.
      true≢false
      (sym (eq-eqb object n (k.its ∙ ap (λ (j : ℕ). (get_or e.interfaces j no_interface).object) (sym z) ∙ sym (eqb-true n _ r.2))) ∙ f))
      r.2

  -- interfaces still name live objects
  named-left : interface_objects_live left ≡ true
  named-left = every-delete (λ (p : Interface). among (oids e) p.object) i e.interfaces k.named

  module _ (m : set_members_live e ≡ true) where
    -- the object is still served: nothing goes along
    none-gone : served object left.interfaces ≡ true → without_leaving NoInterface left ≡ left
    none-gone s =
        nothing-goes (has_interface left) left
        (every-mono (has_interface e) (has_interface left)
        (λ o t.
        ⊎_elim
        (λ a. ap (λ (n : ℕ). served n left.interfaces) (sym (eqb-true object o.oid a)) ∙ s)
        (λ f. other-served o.oid f t)
        (true-or-false (eqb object o.oid)))
        e.objects k.serving)
        named-left m

    -- it is not: it goes, and it alone
    module _ (s : served object left.interfaces ≡ false) (u : distinct eqb (oids e) ≡ true) where
      abbrev others : List Object
      others = keep (λ (o : Object). not (eqb object o.oid)) e.objects

      others-left : keep (has_interface left) e.objects ≡ others
      others-left =
          keep-ext-on (has_interface e) (has_interface left) (λ (o : Object). not (eqb object o.oid))
          (λ o t.
          ⊎_elim
          (λ a. ap (λ (n : ℕ). served n left.interfaces) (sym (eqb-true object o.oid a)) ∙ s ∙ sym (ap not a))
          (λ f. other-served o.oid f t ∙ sym (ap not f))
          (true-or-false (eqb object o.oid)))
          e.objects k.serving

      -- an OID that was live still is, but this one
      live-left : (n : ℕ) → among (oids e) n ≡ true → among (map oid_of others) n ≡ not (eqb object n)
      live-left n t = some-same-keep-map eqb eqb-decides (λ (x : ℕ). not (eqb object x)) oid_of n e.objects ∙ rw t (and-true (not (eqb object n)))

      interfaces-left : every (λ (p : Interface). among (map oid_of others) p.object) left.interfaces ≡ true
      interfaces-left =
          every-mono-on (λ (p : Interface). among (oids e) p.object) (λ (p : Interface). not (eqb object p.object)) (λ (p : Interface). among (map oid_of others) p.object)
          (λ p t f. live-left p.object t ∙ f) left.interfaces named-left (some-none (λ (p : Interface). eqb object p.object) left.interfaces s)

      abbrev gone : ℕ
      gone = (get_or e.objects (object_row e object) no_object).oid

      gone-its : object ≡ gone
      gone-its = eqb-true object gone (entry_here eqb eqb-decides oid_of no_object object e.objects its-row)

      members-left : (ms : List ℕ) → every (among (oids e)) ms ≡ true → keep (among (map oid_of others)) ms ≡ keep (λ (n : ℕ). not (eqb n gone)) ms
      members-left ms a =
          keep-ext-on (among (oids e)) (among (map oid_of others)) (λ (n : ℕ). not (eqb n gone))
          (λ n t. live-left n t ∙ ap not (same-comm eqb eqb-decides object n ∙ ap (eqb n) gone-its)) ms a

      one-gone : without_leaving NoInterface left ≡ drop_object (object_row e object) left
      one-gone =
          let live : List Object → Interface → Bool = λ os p. among (map oid_of os) p.object in
          let cut : List Object → PingSet → PingSet = λ os p. with_members (keep (among (map oid_of os)) p.members) p in
          let without : PingSet → PingSet = λ p. with_members (keep (λ (n : ℕ). not (eqb n gone)) p.members) p in
          ap (λ (os : List Object). with_interfaces (keep (live os) left.interfaces) (with_sets (map (cut os) e.sets) (with_objects os left))) others-left
          ∙ ap (λ (is : List Interface). with_interfaces is (with_sets (map (cut others) e.sets) (with_objects others left))) (keep_all (live others) left.interfaces interfaces-left)
          ∙ ap (λ (ss : List PingSet). with_sets ss (with_objects others left))
          (map-ext-on (λ (p : PingSet). every (among (oids e)) p.members) (cut others) without
          (λ p a. ap (λ (l : List ℕ). with_members l p) (members-left p.members a)) e.sets m)
          ∙ ap (λ (os : List Object). with_sets (map without e.sets) (with_objects os left)) (entry-remove eqb eqb-decides oid_of no_object object e.objects its-row u)

-- ---- over the words

-- interface i of object o is live, OIDs are proper, and members live
module _ (ws : List ℕ) (i o : ℕ) (inside : i < interface_count ws) (fine : proper (oids_of ws) ≡ true) (members : members_live_in ws ≡ true) (serves : Holds (Serves i o) ws) where
  below : i < length (interfaces_of ws)
  below = let l = interfaces-length ws in omega arith

  module _ (ws' : List ℕ) (taken : Became (drop_interface i) ws ws') where
    pub row-live : (r : ℕ) → Holds (λ e. r ≡ object_row e o) ws' → r < object_count ws'
    row-live r found =
        let l : length (objects_of ws') ≡ length (objects_of ws) = ap (λ (e : Entries). length e.objects) (taken ws) in
        let n = objects-length ws' in
        let f = found ws ∙ ap (λ (e : Entries). object_row e o) (taken ws) in
        let live = its-row i o (view (memory ws ws)) (serves ws) below in
        omega arith

    fit : (members_below ws' ≡ true) × (distinct eqb (oids_of ws') ≡ true)
    fit = asked ws' ws (ap (λ (e : Entries). proper (oids e)) (taken ws) ∙ fine) (ap set_members_live (taken ws) ∙ members)

    pub members-below : members_below ws' ≡ true
    members-below = fit.0

    pub oids-distinct : distinct eqb (oids_of ws') ≡ true
    oids-distinct = fit.1

    module _ (s : List ℕ) (b : Bool) (tested : Holds (λ e. b ≡ served o e.interfaces) ws') where
      asked-left : served o (drop_interface i (view (memory ws s))).interfaces ≡ b
      asked-left = sym (tested s ∙ ap (λ (e : Entries). served o e.interfaces) (taken s))

      pub object-kept : b ≡ true → InterfaceDropped i o (view (memory ws s)) 0 (view (memory ws' s))
      object-kept h =
          let f = asked-left ∙ h in
          record { became = taken s ∙ sym (none-gone i o _ (serves s) below members f); gone = rw f }

      pub object-gone : b ≡ false → (r : ℕ) → Holds (λ e. r ≡ object_row e o) ws' → (ws'' : List ℕ) → Became (drop_object r) ws' ws''
          → InterfaceDropped i o (view (memory ws s)) 1 (view (memory ws'' s))
      object-gone h r found ws'' left =
          let f = asked-left ∙ h in
          record {
            became =
                left s
                ∙ (λ u. drop_object ((found s ∙ ap (λ (e : Entries). object_row e o) (taken s)) u) (taken s u))
                ∙ sym (one-gone i o _ (serves s) below members f (asked ws s fine members).1);
            gone = rw f;
          }
