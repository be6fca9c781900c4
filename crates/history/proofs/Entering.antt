-- The calls that enter an exporter, an object or an interface start its life.
use Prim.Native.Nat.{ℕ, ◌+◌, ◌-◌}
use mathlib.Core.Path.{◌≡◌, refl, sym, ap, ◌∙◌}
use mathlib.Core.Bool.{Bool, true, false, cond, not, ◌&&◌, ◌||◌, and-true, and-false, or-false, true≢false}
use mathlib.Core.List.Memᴰ
use mathlib.Core.List.{List, [], ◌∷◌, ◌++◌, map, append-nil}
use mathlib.Core.Logic.{⊎_elim}
use native.Mathlib.Omega.{arith}
use borrow.Author.Tests.{eq-eqb, ne_eqb, eqb-true, eqb-false, lt-leb, not-true, not-false}
use lib.ListN.{length, replicate, length-append}
use lib.Dec.{eqb, leb}
use Rattle.kinds.specs.declared.Guid.{Guid}
use Rattle.kinds.proofs.Refusing.{passed}
use Rattle.lists.specs.Lists.{keep, some, every, among}
use Rattle.lists.specs.Guids.{nil, same_guid}
use Rattle.lists.proofs.Tests.{true-or-false, and_intro, or_left, or_right}
use Rattle.lists.proofs.Lists.{some-snoc, every-snoc, keep_snoc, keep-ext, map-append}
use Rattle.lists.proofs.Distinct.{eqb-decides}
use Rattle.rules.specs.Entries.{Object, Interface, Entries, ipids, with_exporters, with_interfaces, with_objects}
use Rattle.rules.specs.Calls.{editing, enter_exporter, enter_object, enter_interface}
use Rattle.rules.specs.Sound.{sound}
use Rattle.rules.specs.Rules.{entered_counts, number, next, refusals, is_live_exporter, is_live_object}
use Rattle.history.specs.History.{ExporterLife, ObjectLife, Account, InterfaceLife, History, remaining, at_zero, interfaces_at_zero, exporter_removed, unheard, object_gone}
use Rattle.history.specs.History.{live_exporters, live_objects, live_interface, live_set, no_exporter_life, no_object_life, exporter_entry, object_entry, interface_entry, set_entry, live}
use Rattle.history.specs.History.{with_exporter_lives, with_object_lives, with_interface_lives, no_account, entered_interface, exporter_serial, object_serial, lived}
use Rattle.lists.proofs.Elements.{In, in_some, in-none, keep-in, in-last, snoc-in, map-ext-in, keep-ext-in, first-sole, some-sole, one_in, sole-by}
use Rattle.history.proofs.Steps.{interfaces_over, sets_over, clock-live, now-heard, Step, stepped}
use Rattle.history.proofs.Lives.{serial_of_exporter, serial_of_object, serials-snoc, named-snoc, life-found, life-found-snoc, bounded-entered, Kept}
use Rattle.history.proofs.Identities.{live-object, found-exporter, found-object}

-- what an interface has as its entry after it is entered
abbrev entered_entry : Guid → Guid → ℕ → ℕ → Interface
entered_entry i iid o n = record { ipid = i; iid = iid; object = o; counts = entered_counts n }

-- ---- an exporter

module _ (h : History) (k : Kept h) (n : ExporterLife) (s : n.serial ≡ length h.exporters) (r : n.removed ≡ false) where
  abbrev with_exporter : History
  with_exporter = with_exporter_lives (h.exporters ++ (n ∷ [])) h

  -- the objects that are gone are the same
  exporter-objects : live_objects with_exporter ≡ live_objects h
  exporter-objects =
      keep-ext (λ o. not (object_gone with_exporter o)) (λ o. not (object_gone h o))
      (λ o.
      ap (λ (b : Bool). not (interfaces_at_zero h o || b || unheard h o))
      (some-snoc (λ (x : ExporterLife). eqb x.serial o.exporter && x.removed) h.exporters n
      ∙ ap (λ (b : Bool). exporter_removed h o || (eqb n.serial o.exporter && b)) r
      ∙ ap (λ (b : Bool). exporter_removed h o || b) (and-false (eqb n.serial o.exporter))
      ∙ or-false (exporter_removed h o)))
      h.objects

  -- each names the exporter that it named
  exporter-entries : map (object_entry with_exporter) (live_objects with_exporter) ≡ map (object_entry h) (live_objects h)
  exporter-entries =
      rw exporter-objects
      (map-ext-in _ _ _ (λ o m u.
      let x = life-found-snoc serial_of_exporter no_exporter_life h.exporters n o.exporter k.exporters s (k.exported o (live-object h m).0) in
      record { oid = o.oid; exporter = (x u).oxid; noping = o.noping; heard = o.heard }))

  -- the live entries with the exporter
  pub exporter-entered : live with_exporter ≡ with_exporters ((live h).exporters ++ (exporter_entry n ∷ [])) (live h)
  unfolding live
  exporter-entered =
      λ u.
      record {
        clock = h.clock;
        next = h.next;
        exporters =
            (ap (map exporter_entry)
            (keep_snoc (λ (x : ExporterLife). not x.removed) h.exporters n
            ∙ ap (λ (b : Bool). live_exporters h ++ cond (not b) (n ∷ []) []) r)
            ∙ map-append exporter_entry (live_exporters h) (n ∷ [])) u;
        objects = exporter-entries u;
        interfaces = interfaces_over (exporter-objects u) h.objects h.interfaces;
        sets = sets_over h.clock (exporter-objects u) h.sets;
      }

  -- the history with the exporter
  pub exporter-kept : sound (live with_exporter) ≡ true → Kept with_exporter
  exporter-kept t =
      record {
        exporters = serials-snoc serial_of_exporter h.exporters n k.exporters s;
        objects = k.objects;
        exported = λ o m. named-snoc serial_of_exporter n (k.exported o m);
        owned = k.owned;
        bounded = k.bounded;
        members = k.members;
        latest = λ o p m. k.latest o p (rw exporter-objects at m);
        sound = t;
      }

-- enter exporter
pub exporter-step : (h : History) → Kept h → (x : ℕ) (u : Guid) (b : List ℕ) → number (editing (enter_exporter x u b)) (live h) ≡ 0 → Step (editing (enter_exporter x u b)) h
unfolding lived next
exporter-step h k x u b a = stepped (editing (enter_exporter x u b)) h k a (exporter-entered h k _ refl refl) (exporter-kept h k _ refl refl)

-- ---- an interface

-- an interface at its entry is not at zero
pub entered-zero : (i iid : Guid) (o n : ℕ) → eqb n 0 ≡ false → at_zero (entered_interface i iid o n) ≡ false
unfolding every
entered-zero i iid o n z =
    let d = eqb-false n 0 z in ap (λ (b : Bool). b && every (λ (a : Account). leb a.granted a.taken) (replicate 8 no_account)) (lt-leb n 0 (omega arith))

module _ (h : History) (k : Kept h) (i iid : Guid) (n : ℕ) (z : eqb n 0 ≡ false) (o : ObjectLife) (m : In o (live_objects h)) (d : ℕ) (e : d ≡ o.serial) where
  abbrev new_interface : InterfaceLife
  new_interface = entered_interface i iid d n

  abbrev with_interface : History
  with_interface = with_interface_lives (h.interfaces ++ (new_interface ∷ [])) h

  -- nothing changes for any object: only a live one has the interface
  interface-zero : (p : ObjectLife) → In p h.objects → interfaces_at_zero with_interface p ≡ interfaces_at_zero h p
  interface-zero p w =
      every-snoc (λ (l : InterfaceLife). not (eqb l.object p.serial) || at_zero l) h.interfaces new_interface
      ∙ ⊎_elim
      (λ t.
      let q : p ≡ o = one_in eqb eqb-decides serial_of_object h.objects k.objects.differ w (live-object h m).0 (sym (sym e ∙ eqb-true d p.serial t)) in
      let f : interfaces_at_zero h p ≡ false = ap (interfaces_at_zero h) q ∙ or_left _ _ (or_left _ _ (live-object h m).1) in
      ap (λ (b : Bool). b && (not (eqb d p.serial) || at_zero new_interface)) f ∙ sym f)
      (λ f. ap (λ (b : Bool). interfaces_at_zero h p && (not b || at_zero new_interface)) f ∙ and-true (interfaces_at_zero h p))
      (true-or-false (eqb d p.serial))

  -- so the live objects are the same
  interface-objects : live_objects with_interface ≡ live_objects h
  interface-objects =
      keep-ext-in (λ p. not (object_gone with_interface p)) (λ p. not (object_gone h p)) h.objects
      (λ p w. ap (λ (b : Bool). not (b || exporter_removed h p || unheard h p)) (interface-zero p w))

  -- the live entries with the interface
  pub interface-entered : live with_interface ≡ with_interfaces ((live h).interfaces ++ (entered_entry i iid o.oid n ∷ [])) (live h)
  unfolding live
  interface-entered =
      λ u.
      record {
        clock = h.clock;
        next = h.next;
        exporters = map exporter_entry (live_exporters h);
        objects = map (object_entry h) (interface-objects u);
        interfaces =
            (ap (λ (os : List ObjectLife). interfaces_over os h.objects (h.interfaces ++ (new_interface ∷ []))) interface-objects
            ∙ ap (map (interface_entry h))
            (keep_snoc (live_interface h) h.interfaces new_interface
            ∙ ap (λ (b : Bool). keep (live_interface h) h.interfaces ++ cond b (new_interface ∷ []) []) alive)
            ∙ map-append (interface_entry h) (keep (live_interface h) h.interfaces) (new_interface ∷ [])
            ∙ ap (λ (j : Interface). map (interface_entry h) (keep (live_interface h) h.interfaces) ++ (j ∷ [])) entry) u;
        sets = sets_over h.clock (interface-objects u) h.sets;
      }
    where
      alive : live_interface h new_interface ≡ true
      alive =
          and_intro (not (at_zero new_interface)) _ (ap not (entered-zero i iid d n z))
          (in_some (λ (p : ObjectLife). eqb p.serial d) m (eq-eqb o.serial d (sym e)))

      entry : interface_entry h new_interface ≡ entered_entry i iid o.oid n
      entry u =
          record {
            ipid = i;
            iid = iid;
            object = ap (λ (p : ObjectLife). p.oid) (life-found serial_of_object no_object_life k.objects (record { life = o; here = (live-object h m).0; named = sym e })) u;
            counts = (let w : n - 0 ≡ n = omega arith in w u ∷ replicate 8 0);
          }

  -- the history with the interface
  pub interface-kept : sound (live with_interface) ≡ true → Kept with_interface
  interface-kept t =
      record {
        exporters = k.exporters;
        objects = k.objects;
        exported = k.exported;
        owned = λ l w. ⊎_elim (k.owned l) (λ q. record { life = o; here = (live-object h m).0; named = sym e ∙ ap (λ (j : InterfaceLife). j.object) (sym q) }) (snoc-in h.interfaces w);
        bounded = λ l w. ⊎_elim (k.bounded l) (λ q. rw q (bounded-entered _ _ _ _)) (snoc-in h.interfaces w);
        members = k.members;
        latest = λ p q w. k.latest p q (rw interface-objects at w);
        sound = t;
      }

-- what its refusals leave
pub interface-accepted : (e : Entries) (o : ℕ) (i iid : Guid) (n : ℕ) → number (editing (enter_interface o i iid n)) e ≡ 0 → (is_live_object e o ≡ true) × (eqb n 0 ≡ false)
unfolding number refusals
interface-accepted e o i iid n a =
    let r = passed _ 3 _ (omega arith) a in
    let s = passed _ 5 _ (omega arith) r.1 in
    (not-false (is_live_object e o) s.0, (passed _ 7 _ (omega arith) s.1).0)

-- enter interface
pub interface-step : (h : History) → Kept h → (o : ℕ) (i iid : Guid) (n : ℕ) → number (editing (enter_interface o i iid n)) (live h) ≡ 0 → Step (editing (enter_interface o i iid n)) h
unfolding lived next
interface-step h k o i iid n a =
    let r = interface-accepted (live h) o i iid n a in
    let f = found-object h k o r.0 in
    let e = ap (λ (p : ObjectLife). p.serial) (first-sole (λ (p : ObjectLife). eqb o p.oid) no_object_life f.1) in
    stepped (editing (enter_interface o i iid n)) h k a
    (interface-entered h k i iid n r.1 f.0 f.1.here (object_serial h o) e
    ∙ ap (λ (j : ℕ). with_interfaces ((live h).interfaces ++ (entered_entry i iid j n ∷ [])) (live h)) (sym (eqb-true o f.0.oid f.1.passes)))
    (interface-kept h k i iid n r.1 f.0 f.1.here (object_serial h o) e)

-- ---- an object with its first interface

module _ (h : History) (k : Kept h) (i iid : Guid) (n : ℕ) (z : eqb n 0 ≡ false)
    (oid : ℕ) (np : Bool) (x : ExporterLife) (m : In x h.exporters) (r : x.removed ≡ false) (d : ℕ) (e : d ≡ x.serial) where
  abbrev new_object : ObjectLife
  new_object = record { serial = length h.objects; oid = oid; exporter = d; noping = np; heard = h.clock }

  abbrev first_interface : InterfaceLife
  first_interface = entered_interface i iid (length h.objects) n

  abbrev with_object : History
  with_object = with_object_lives (h.objects ++ (new_object ∷ [])) (with_interface_lives (h.interfaces ++ (first_interface ∷ [])) h)

  -- the serial is no earlier life's
  new-serial : (p : ObjectLife) → In p h.objects → eqb (length h.objects) p.serial ≡ false
  new-serial p w = let b = k.objects.below p w in ne_eqb (length h.objects) p.serial (omega arith)

  -- the earlier lives are gone as they were
  earlier-gone : (p : ObjectLife) → In p h.objects → object_gone with_object p ≡ object_gone h p
  earlier-gone p w =
      ap (λ (b : Bool). b || exporter_removed h p || unheard h p)
      (every-snoc (λ (l : InterfaceLife). not (eqb l.object p.serial) || at_zero l) h.interfaces first_interface
      ∙ ap (λ (b : Bool). interfaces_at_zero h p && (not b || at_zero first_interface)) (new-serial p w)
      ∙ and-true (interfaces_at_zero h p))

  -- the new one is live
  new-live : object_gone with_object new_object ≡ false
  new-live =
      λ u.
      (every-snoc (λ (l : InterfaceLife). not (eqb l.object (length h.objects)) || at_zero l) h.interfaces first_interface
      ∙ ap (λ (b : Bool). interfaces_at_zero h new_object && (not b || at_zero first_interface)) (eq-eqb (length h.objects) (length h.objects) refl)
      ∙ ap (λ (b : Bool). interfaces_at_zero h new_object && b) (entered-zero i iid (length h.objects) n z)
      ∙ and-false (interfaces_at_zero h new_object)) u
      || (some-sole (λ (y : ExporterLife). eqb y.serial d) (sole-by eqb eqb-decides serial_of_exporter d k.exporters.differ m (sym e)) (λ y. y.removed) ∙ r) u
      || (ap (λ (b : Bool). not np && b) (now-heard h.clock) ∙ and-false (not np)) u

  -- the live objects with it
  object-objects : live_objects with_object ≡ live_objects h ++ (new_object ∷ [])
  object-objects =
      keep_snoc (λ p. not (object_gone with_object p)) h.objects new_object
      ∙ (λ u.
      keep-ext-in (λ p. not (object_gone with_object p)) (λ p. not (object_gone h p)) h.objects (λ p w. ap not (earlier-gone p w)) u
      ++ cond (not (new-live u)) (new_object ∷ []) [])

  -- an interface names an earlier object
  earlier-owner : (l : InterfaceLife) → In l h.interfaces → eqb (length h.objects) l.object ≡ false
  earlier-owner l w = let s = k.owned l w in let b = k.objects.below s.life s.here in let q = s.named in ne_eqb (length h.objects) l.object (omega arith)

  -- the live interfaces with its first
  object-interfaces : interfaces_over (live_objects h ++ (new_object ∷ [])) (h.objects ++ (new_object ∷ [])) (h.interfaces ++ (first_interface ∷ []))
      ≡ (live h).interfaces ++ (entered_entry i iid oid n ∷ [])
  unfolding live
  object-interfaces =
      ap (map (interface_entry with_object))
      (keep_snoc after h.interfaces first_interface
      ∙ (λ u. keep-ext-in after (live_interface h) h.interfaces before u ++ cond (alive u) (first_interface ∷ []) []))
      ∙ map-append (interface_entry with_object) (keep (live_interface h) h.interfaces) (first_interface ∷ [])
      ∙ (λ u. map-ext-in (interface_entry with_object) (interface_entry h) (keep (live_interface h) h.interfaces) entries u ++ (entry u ∷ []))
    where
      after : InterfaceLife → Bool
      after l = not (at_zero l) && some (λ (p : ObjectLife). eqb p.serial l.object) (live_objects h ++ (new_object ∷ []))

      before : (l : InterfaceLife) → In l h.interfaces → after l ≡ live_interface h l
      before l w =
          ap (λ (b : Bool). not (at_zero l) && b)
          (some-snoc (λ (p : ObjectLife). eqb p.serial l.object) (live_objects h) new_object
          ∙ ap (λ (b : Bool). some (λ (p : ObjectLife). eqb p.serial l.object) (live_objects h) || b) (earlier-owner l w)
          ∙ or-false (some (λ (p : ObjectLife). eqb p.serial l.object) (live_objects h)))

      alive : after first_interface ≡ true
      alive =
          and_intro (not (at_zero first_interface)) _ (ap not (entered-zero i iid (length h.objects) n z))
          (in_some (λ (p : ObjectLife). eqb p.serial (length h.objects)) (in-last (live_objects h) new_object) (eq-eqb (length h.objects) (length h.objects) refl))

      entries : (l : InterfaceLife) → In l (keep (live_interface h) h.interfaces) → interface_entry with_object l ≡ interface_entry h l
      entries l w u =
          record {
            ipid = l.ipid;
            iid = l.iid;
            object =
                ap (λ (p : ObjectLife). p.oid)
                (life-found-snoc serial_of_object no_object_life h.objects new_object l.object k.objects refl (k.owned l (keep-in (live_interface h) h.interfaces w).0)) u;
            counts = map remaining l.accounts;
          }

      entry : interface_entry with_object first_interface ≡ entered_entry i iid oid n
      entry u =
          record {
            ipid = i;
            iid = iid;
            object =
                ap (λ (p : ObjectLife). p.oid)
                (life-found serial_of_object no_object_life (serials-snoc serial_of_object h.objects new_object k.objects refl)
                (record { life = new_object; here = in-last h.objects new_object; named = refl })) u;
            counts = (let w : n - 0 ≡ n = omega arith in w u ∷ replicate 8 0);
          }

  -- no set has the new object
  object-sets : sets_over h.clock (live_objects h ++ (new_object ∷ [])) h.sets ≡ sets_over h.clock (live_objects h) h.sets
  object-sets =
      map-ext-in _ (set_entry h) (keep (live_set h) h.sets)
      (λ s w u.
      record {
        number = s.number;
        sequence = s.sequence;
        pinged = s.pinged;
        members =
            ap (map (λ (p : ObjectLife). p.oid))
            (keep_snoc (λ (p : ObjectLife). among s.members p.serial) (live_objects h) new_object
            ∙ ap (λ (b : Bool). keep (λ (p : ObjectLife). among s.members p.serial) (live_objects h) ++ cond b (new_object ∷ []) [])
            (in-none (eqb (length h.objects)) s.members
            (λ j v. let b = k.members s (keep-in (live_set h) h.sets w).0 j v in ne_eqb (length h.objects) j (omega arith)))
            ∙ append-nil (keep (λ (p : ObjectLife). among s.members p.serial) (live_objects h))) u;
      })

  -- the live entries with both
  pub object-entered : live with_object
      ≡ with_objects ((live h).objects ++ (record { oid = oid; exporter = x.oxid; noping = np; heard = h.clock } ∷ []))
      (with_interfaces ((live h).interfaces ++ (entered_entry i iid oid n ∷ [])) (live h))
  unfolding live
  object-entered =
      λ u.
      record {
        clock = h.clock;
        next = h.next;
        exporters = map exporter_entry (live_exporters h);
        objects =
            (ap (map (object_entry h)) object-objects
            ∙ map-append (object_entry h) (live_objects h) (new_object ∷ [])
            ∙ ap (λ (j : ℕ). map (object_entry h) (live_objects h) ++ (record { oid = oid; exporter = j; noping = np; heard = h.clock } ∷ []))
            (ap (λ (p : ExporterLife). p.oxid) (life-found serial_of_exporter no_exporter_life k.exporters (record { life = x; here = m; named = sym e })))) u;
        interfaces =
            (ap (λ (os : List ObjectLife). interfaces_over os (h.objects ++ (new_object ∷ [])) (h.interfaces ++ (first_interface ∷ []))) object-objects
            ∙ object-interfaces) u;
        sets = (ap (λ (os : List ObjectLife). sets_over h.clock os h.sets) object-objects ∙ object-sets) u;
      }

  -- the history with both, where the OID is no live object's
  pub object-kept : is_live_object (live h) oid ≡ false → sound (live with_object) ≡ true → Kept with_object
  unfolding live
  object-kept free t =
      let l : length (h.objects ++ (new_object ∷ [])) ≡ length h.objects + 1 = length-append h.objects (new_object ∷ []) in
      record {
        exporters = k.exporters;
        objects = serials-snoc serial_of_object h.objects new_object k.objects refl;
        exported = λ o w. ⊎_elim (k.exported o) (λ q. record { life = x; here = m; named = sym e ∙ ap (λ (p : ObjectLife). p.exporter) (sym q) }) (snoc-in h.objects w);
        owned = λ j w. ⊎_elim
            (λ v. named-snoc serial_of_object new_object (k.owned j v))
            (λ q. record { life = new_object; here = in-last h.objects new_object; named = ap (λ (p : InterfaceLife). p.object) (sym q) })
            (snoc-in h.interfaces w);
        bounded = λ j w. ⊎_elim (k.bounded j) (λ q. rw q (bounded-entered _ _ _ _)) (snoc-in h.interfaces w);
        members = λ s w j v. let b = k.members s w j v in omega arith;
        latest = λ o p w v q.
            ⊎_elim
            (λ a. ⊎_elim
            (λ b. k.latest o p a b q)
            (λ b.
            absurd (true≢false
            (sym (in_some (eqb oid) (Memᴰ.map (λ (y : Object). y.oid) (Memᴰ.map (object_entry h) a)) (eq-eqb oid o.oid (ap (λ (y : ObjectLife). y.oid) (sym b) ∙ sym q))) ∙ free)))
            (snoc-in h.objects v))
            (λ a.
            let s : o.serial ≡ length h.objects = ap (λ (y : ObjectLife). y.serial) a in
            let b = (serials-snoc serial_of_object h.objects new_object k.objects refl).below p v in omega arith)
            (snoc-in (live_objects h) (rw object-objects at w));
        sound = t;
      }

-- what its refusals leave
object-accepted : (e : Entries) (o x : ℕ) (i iid : Guid) (n : ℕ) (np : Bool) → number (editing (enter_object o x i iid n np)) e ≡ 0
    → (is_live_object e o ≡ false) × (is_live_exporter e x ≡ true) × (eqb n 0 ≡ false)
unfolding number refusals
object-accepted e o x i iid n np a =
    let r = passed _ 3 _ (omega arith) a in
    let s = passed _ 4 _ (omega arith) r.1 in
    (or_right (eqb o 0) _ (or_left _ (same_guid i nil || some (same_guid i) (ipids e)) r.0), not-false _ s.0, (passed _ 7 _ (omega arith) s.1).0)

-- enter object
pub object-step : (h : History) → Kept h → (o x : ℕ) (i iid : Guid) (n : ℕ) (np : Bool) → number (editing (enter_object o x i iid n np)) (live h) ≡ 0 → Step (editing (enter_object o x i iid n np)) h
unfolding lived next
object-step h k o x i iid n np a =
    let r = object-accepted (live h) o x i iid n np a in
    let f = found-exporter h k x r.1 in
    let g = keep-in (λ (p : ExporterLife). not p.removed) h.exporters f.1.here in
    let e = ap (λ (p : ExporterLife). p.serial) (first-sole (λ (p : ExporterLife). eqb x p.oxid) no_exporter_life f.1) in
    let w = not-true f.0.removed g.1 in
    stepped (editing (enter_object o x i iid n np)) h k a
    (object-entered h k i iid n r.2 o np f.0 g.0 w (exporter_serial h x) e
    ∙ ap (λ (j : ℕ). with_objects ((live h).objects ++ (record { oid = o; exporter = j; noping = np; heard = h.clock } ∷ []))
    (with_interfaces ((live h).interfaces ++ (entered_entry i iid o n ∷ [])) (live h))) (sym (eqb-true x f.0.oxid f.1.passes))
    ∙ ap (λ (j : ℕ). with_objects ((live h).objects ++ (record { oid = o; exporter = x; noping = np; heard = j } ∷ []))
    (with_interfaces ((live h).interfaces ++ (entered_entry i iid o n ∷ [])) (live h))) (sym (clock-live h)))
    (object-kept h k i iid n r.2 o np f.0 g.0 w (exporter_serial h x) e r.0)
