-- Add and release by the row of their interface: what they leave, and what release answers.
use Prim.Native.Nat.{ℕ, ◌<◌, min}
use mathlib.Core.Path.{◌≡◌, refl, sym, ap, ◌∙◌}
use mathlib.Core.Bool.{Bool, true, false, not, and-true}
use mathlib.Core.List.{List, [], ◌∷◌}
use borrow.Author.Tests.{lt-ltb}
use lib.ListN.{length, set}
use lib.Seq.{map-set_same}
use lib.Dec.{eqb}
use Rattle.kinds.specs.declared.Guid.{Guid}
use Rattle.lists.specs.Lists.{keep, every, some, distinct, delete_at, among}
use Rattle.lists.specs.Guids.{same_guid}
use Rattle.lists.proofs.Lists.{every-at, every_set, some-map, none-some, every-kept, keep-passes, keep_all, keep-set}
use Rattle.lists.proofs.Distinct.{eqb-decides, some-same-keep-map, entry-change, entry-remove}
use Rattle.lists.proofs.Guids.{guid-decides}
use Rattle.rules.specs.Entries.{Object, Interface, Entries, oids, interface_ipids, with_interfaces, public_of, private_of, interface_row}
use Rattle.rules.specs.Calls.{editing, add, release}
use Rattle.rules.specs.Sound.{held, has_interface, sound}
use Rattle.rules.specs.Rules.{is_live_object, is_live_interface, no_interface, flag, without_objects, at_interface, increased, decreased, next, results, release_values}
use Rattle.rules.proofs.Groups.{grouped, serving-objects}
use Rattle.rules.proofs.ByRow.{interface_in, interface-live, interface-row, interfaces-distinct}
use Rattle.rules.proofs.NothingGoes.{nothing-goes}

-- ---- add

-- an interface changed, in its row
at-interface-row : (e : Entries) (i : Guid) (f : Interface → Interface) → interface_row e i < length e.interfaces → distinct same_guid (interface_ipids e) ≡ true
    → at_interface i f e ≡ with_interfaces (set e.interfaces (interface_row e i) (f (interface_in e i))) e
at-interface-row e i f h u =
    ap (λ (l : List Interface). with_interfaces l e) (entry-change same_guid guid-decides (λ (p : Interface). p.ipid) no_interface i e.interfaces h u f)

-- add changes the counts in the interface's row
pub add_row : (e : Entries) → sound e ≡ true → (c : ℕ) (i : Guid) (p q : ℕ) → interface_row e i < length e.interfaces
    → next (editing (add c i p q)) e ≡ with_interfaces (set e.interfaces (interface_row e i) (increased c p q (interface_in e i))) e
unfolding next
add_row e s c i p q h = at-interface-row e i (increased c p q) h (interfaces-distinct e s)

-- ---- release

-- the interface in the row of an IPID with what is left of its counts
abbrev pub lessened : Entries → ℕ → Guid → ℕ → ℕ → Interface
lessened e c i p q = decreased c p q (interface_in e i)

-- the entries with it in its row, and without this row
abbrev pub with_lessened : Entries → ℕ → Guid → ℕ → ℕ → Entries
with_lessened e c i p q = with_interfaces (set e.interfaces (interface_row e i) (lessened e c i p q)) e

abbrev pub without_interface : Entries → Guid → Entries
without_interface e i = with_interfaces (delete_at (interface_row e i) e.interfaces) e

-- some interface that is left is of the object of the interface
abbrev pub still_served : Entries → Guid → Bool
still_served e i = some (λ (r : Interface). eqb (interface_in e i).object r.object) (delete_at (interface_row e i) e.interfaces)

-- the entries with other interfaces, and without the objects that have none of these
abbrev served : List Interface → Entries → Entries
served is e = without_objects (has_interface (with_interfaces is e)) (with_interfaces is e)

module _ (e : Entries) (i : Guid) (s : sound e ≡ true) (h : interface_row e i < length e.interfaces) where
  -- the row's object is live
  object-named : among (oids e) (interface_in e i).object ≡ true
  object-named = every-at (λ (r : Interface). among (oids e) r.object) e.interfaces no_interface (interface_row e i) h (grouped e s).interfaces.named

  -- the IPID is no other interface's
  ipid-gone : every (λ (r : Interface). not (same_guid i r.ipid)) (without_interface e i).interfaces ≡ true
  ipid-gone =
      rw (← entry-remove same_guid guid-decides (λ (r : Interface). r.ipid) no_interface i e.interfaces h (interfaces-distinct e s)) (keep-passes _ e.interfaces)

  module _ (c p q : ℕ) where
    -- release changes the counts in the interface's row
    lessened-row : (at_interface i (decreased c p q) e).interfaces ≡ set e.interfaces (interface_row e i) (lessened e c i p q)
    lessened-row = ap (λ (f : Entries). f.interfaces) (at-interface-row e i (decreased c p q) h (interfaces-distinct e s))

    -- a count is left: the interface keeps its row with what is left
    pub release-counted : held (lessened e c i p q) ≡ true → next (editing (release c i p q)) e ≡ with_lessened e c i p q
    unfolding next
    release-counted t =
        let g = (grouped e s).interfaces in
        let after : Entries = with_lessened e c i p q in
        ap (λ (l : List Interface). served (keep held l) e) lessened-row
        ∙ ap (λ (l : List Interface). served l e)
        (keep_all held after.interfaces (every_set held e.interfaces (interface_row e i) (lessened e c i p q) g.counted t))
        ∙ nothing-goes (has_interface after) after
        (sym (serving-objects e.objects after.interfaces)
        ∙ ap (λ (l : List ℕ). every (among l) (oids e))
        (map-set_same (λ (r : Interface). r.object) e.interfaces (interface_row e i) (lessened e c i p q) no_interface refl)
        ∙ g.serving)
        (every_set (λ (r : Interface). among (oids e) r.object) e.interfaces (interface_row e i) (lessened e c i p q) g.named object-named)
        (grouped e s).sets.named

    -- none is left: the interface goes, and its object where no interface that is left is of it
    pub release-empty : held (lessened e c i p q) ≡ false → next (editing (release c i p q)) e ≡ without_objects (has_interface (without_interface e i)) (without_interface e i)
    unfolding next
    release-empty f =
        ap (λ (l : List Interface). served (keep held l) e) lessened-row
        ∙ ap (λ (l : List Interface). served l e)
        (keep-set held (interface_row e i) e.interfaces (lessened e c i p q) h f (grouped e s).interfaces.counted)

    -- what is answered, by what is live afterwards
    values-from : (after : Entries) (b d : Bool) → next (editing (release c i p q)) e ≡ after → is_live_interface after i ≡ b → is_live_object after (interface_in e i).object ≡ d
        → (results (editing (release c i p q)) e).values ≡ min p (public_of (interface_in e i)) ∷ min q (private_of c (interface_in e i)) ∷ flag (not b) ∷ flag (not d) ∷ []
    unfolding results
    values-from after b d n v w =
        ap (release_values c i p q e) n
        ∙ ap
        (λ (r : Interface). min p (public_of r) ∷ min q (private_of c r) ∷ flag (not (is_live_interface after i)) ∷ flag (not (is_live_object after r.object)) ∷ [])
        (interface-row e i)
        ∙ λ u. min p (public_of (interface_in e i)) ∷ min q (private_of c (interface_in e i)) ∷ flag (not (v u)) ∷ flag (not (w u)) ∷ []

    -- a count is left: neither interface nor object went
    pub counted-values : held (lessened e c i p q) ≡ true
        → (results (editing (release c i p q)) e).values ≡ min p (public_of (interface_in e i)) ∷ min q (private_of c (interface_in e i)) ∷ 0 ∷ 0 ∷ []
    counted-values t =
        values-from (with_lessened e c i p q) true true (release-counted t)
        (ap (some (same_guid i)) (map-set_same (λ (r : Interface). r.ipid) e.interfaces (interface_row e i) (lessened e c i p q) no_interface refl)
        ∙ interface-live e i
        ∙ lt-ltb (interface_row e i) (length e.interfaces) h)
        object-named

    -- none is left: the interface went, and the object where no interface that is left is of it
    pub empty-values : held (lessened e c i p q) ≡ false
        → (results (editing (release c i p q)) e).values
        ≡ min p (public_of (interface_in e i)) ∷ min q (private_of c (interface_in e i)) ∷ 1 ∷ flag (not (still_served e i)) ∷ []
    empty-values f =
        let left : Entries = without_interface e i in
        values-from (without_objects (has_interface left) left) false (still_served e i) (release-empty f)
        (some-map (same_guid i) (λ (r : Interface). r.ipid) _
        ∙ none-some (λ (r : Interface). same_guid i r.ipid) _ (every-kept (λ (r : Interface). not (same_guid i r.ipid)) _ left.interfaces ipid-gone))
        (some-same-keep-map eqb eqb-decides (λ (n : ℕ). some (λ (r : Interface). eqb n r.object) left.interfaces) (λ (o : Object). o.oid) (interface_in e i).object e.objects
        ∙ rw object-named (and-true (still_served e i)))
