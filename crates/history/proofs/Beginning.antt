-- A history that begins at sound entries: they are its live entries, and what holds of every history holds of it.
use Prim.Native.Nat.{ℕ, zero, suc, ◌-◌, ◌<◌}
use mathlib.Core.Path.{◌≡◌, refl, sym, ap, ◌∙◌}
use mathlib.Core.Bool.{Bool, true, false, not, ◌&&◌, ◌||◌, and-false, true≢false}
use mathlib.Core.List.Memᴰ
use mathlib.Core.List.{List, [], ◌∷◌, map, map-id}
use mathlib.Core.Logic.{⊎_elim}
use native.Mathlib.Omega.{arith}
use borrow.Author.Tests.{eq-eqb, eqb-true, ltb-true, le-leb, not-true}
use lib.ListN.{length, get_or, length-map}
use lib.Dec.{eqb, leb}
use Rattle.kinds.proofs.Refusing.{same_test}
use Rattle.lists.specs.Lists.{keep, some, every, distinct, tabulate, among}
use Rattle.lists.proofs.Tests.{true-or-false, and_intro}
use Rattle.lists.proofs.Lists.{some-map, keep_all, keep-map, map-map, get_d_map, length-tabulate, tabulate-ext, tabulate-snoc, map-tabulate, tabulate-get_or, every-tabulate}
use Rattle.lists.proofs.First.{some_first, first-at}
use Rattle.lists.proofs.Distinct.{eqb-decides, distinct_none, distinct-at}
use Rattle.lists.proofs.Elements.{In, map-in, every_in, in-every, in_some, some_in, in-none, keep-in, keep-ext-in, map-ext-in, tabulate-in, in-tabulate}
use Rattle.rules.specs.Entries.{Exporter, Object, Interface, PingSet, Entries, fresh, oxids, oids, Ordered}
use Rattle.rules.specs.Sound.{sound, held, has_interface, heard_within, pinged_within}
use Rattle.rules.specs.Rules.{no_exporter, no_object}
use Rattle.rules.proofs.SoundLaws.{Sound, sound-fields}
use Rattle.rules.proofs.ByRow.{oids-distinct}
use Rattle.rules.proofs.Keeps.{fresh-sound}
use Rattle.history.specs.History.{ExporterLife, ObjectLife, InterfaceLife, SetLife, place_of, exporter_at, object_at, begun_with, interface_held, set_held}
use Rattle.history.specs.History.{begin, remaining, at_zero, interfaces_at_zero, exporter_removed, unheard, object_gone, live_exporters, live_objects}
use Rattle.history.specs.History.{live_interface, live_set, no_exporter_life, no_object_life, exporter_entry, object_entry, interface_entry, set_entry, live}
use Rattle.history.specs.Runs.{BeginsAt}
use Rattle.history.proofs.Lives.{Serials, Named, serials-snoc, life-found, covered, serial_of_exporter, serial_of_object, Kept}
use Rattle.history.proofs.Accounts.{none_left}

-- ---- tables of lives

module _ {A : Type 0} where
  -- the serials of lives whose serial is their place
  serials-placed : (serial : A → ℕ) (f : ℕ → A) → ((k : ℕ) → serial (f k) ≡ k) → (n : ℕ) → Serials serial (tabulate n f)
  unfolding tabulate
  serials-placed serial f e zero = record { differ = distinct_none eqb; below = λ x m. absurd (Memᴰ.not-nil m) }
  serials-placed serial f e (suc n) =
      rw (tabulate-snoc n f) (serials-snoc serial (tabulate n f) (f n) (serials-placed serial f e n) (e n ∙ sym (length-tabulate n f)))

-- the elements of two equal images
images-in : {A B : Type 0} (f g : A → B) {x : A} (xs : List A) → map f xs ≡ map g xs → In x xs → f x ≡ g x
images-in f g [] e m = absurd (Memᴰ.not-nil m)
images-in f g (y ∷ ys) e (Memᴰ.head q) = let h : f y ≡ g y = cc e in ap f q ∙ h ∙ sym (ap g q)
images-in f g (y ∷ ys) e (Memᴰ.tail m) = images-in f g ys (cc e) m

-- ---- places of identifiers

module _ (ids : List ℕ) (x : ℕ) (t : among ids x ≡ true) where
  place-below : place_of ids x < length ids
  place-below = ltb-true (place_of ids x) (length ids) (some_first (eqb x) ids ∙ t)

  -- the identifier stands there
  place_at : get_or ids (place_of ids x) 0 ≡ x
  place_at = sym (eqb-true x (get_or ids (place_of ids x) 0) (first-at (eqb x) 0 ids place-below))

  -- and, where identifiers are distinct, nowhere else
  place-only : (k : ℕ) → distinct eqb ids ≡ true → k < length ids → eqb k (place_of ids x) ≡ eqb (get_or ids k 0) x
  place-only k u b =
      same_test (eqb k (place_of ids x)) (eqb (get_or ids k 0) x)
      (λ p. eq-eqb (get_or ids k 0) x (ap (λ (j : ℕ). get_or ids j 0) (eqb-true k (place_of ids x) p) ∙ place_at))
      (λ p. eq-eqb k (place_of ids x) (distinct-at eqb eqb-decides ids 0 u k (place_of ids x) b place-below (eqb-true (get_or ids k 0) x p ∙ sym place_at)))

-- ---- tests

-- of what is not pinged or not overdue
heard-lately : (noping late : Bool) → (noping || not late) ≡ true → (not noping && late) ≡ false
heard-lately true late t = refl
heard-lately false true t = absurd (true≢false (sym t))
heard-lately false false t = refl

-- a count with which a history begins is left
begun-left : (ns : List ℕ) → map remaining (map begun_with ns) ≡ ns
begun-left [] = refl
begun-left (n ∷ ns) = λ u. less n u ∷ begun-left ns u
  where
    less : (m : ℕ) → m - 0 ≡ m
    less m = omega arith

-- nothing of it is taken
begun-covered : (ns : List ℕ) → every covered (map begun_with ns) ≡ true
unfolding every
begun-covered [] = refl
begun-covered (n ∷ ns) = and_intro (leb 0 n) (every covered (map begun_with ns)) (le-leb 0 n (omega arith)) (begun-covered ns)

-- some reference is held, so what was granted is not at zero
held-left : (e : Entries) (i : Interface) → held i ≡ true → at_zero (interface_held e i) ≡ false
held-left e i t =
    not-true (at_zero (interface_held e i)) (sym (none_left (map begun_with i.counts)) ∙ ap (some (λ (n : ℕ). not (eqb n 0))) (begun-left i.counts) ∙ t)

-- ---- the lives of sound entries

module _ (e : Entries) (s : sound e ≡ true) where
  abbrev sound-clauses : Sound e
  sound-clauses = sound-fields e s

  exporters-length : length (oxids e) ≡ length e.exporters
  exporters-length = length-map e.exporters (λ x. x.oxid)

  objects-length : length (oids e) ≡ length e.objects
  objects-length = length-map e.objects (λ o. o.oid)

  -- the OID of an object by its place
  oid-at : (k : ℕ) → k < length e.objects → get_or (oids e) k 0 ≡ (object_at e k).oid
  oid-at k b = get_d_map (λ (o : Object). o.oid) e.objects no_object 0 k b

  -- the life of a live exporter
  exporter-named : (x : ℕ) → among (oxids e) x ≡ true → Named serial_of_exporter (begin e).exporters (place_of (oxids e) x)
  unfolding begin
  exporter-named x t =
      let b = place-below (oxids e) x t in
      let l = exporters-length in
      record { life = exporter_at e (place_of (oxids e) x); here = in-tabulate _ (exporter_at e) (place_of (oxids e) x) (omega arith); named = refl }

  -- it has the OXID
  exporter-oxid : (x : ℕ) → among (oxids e) x ≡ true → (exporter_at e (place_of (oxids e) x)).oxid ≡ x
  exporter-oxid x t =
      let b = place-below (oxids e) x t in
      let l = exporters-length in
      sym (get_d_map (λ (p : Exporter). p.oxid) e.exporters no_exporter 0 (place_of (oxids e) x) (omega arith)) ∙ place_at (oxids e) x t

  -- the life of a live object
  object-named : (o : ℕ) → among (oids e) o ≡ true → Named serial_of_object (begin e).objects (place_of (oids e) o)
  unfolding begin
  object-named o t =
      let b = place-below (oids e) o t in
      let l = objects-length in
      record { life = object_at e (place_of (oids e) o); here = in-tabulate _ (object_at e) (place_of (oids e) o) (omega arith); named = refl }

  -- it has the OID
  object-oid : (o : ℕ) → among (oids e) o ≡ true → (object_at e (place_of (oids e) o)).oid ≡ o
  object-oid o t =
      let b = place-below (oids e) o t in
      let l = objects-length in
      sym (oid-at (place_of (oids e) o) (omega arith)) ∙ place_at (oids e) o t

  exporter-serials : Serials serial_of_exporter (begin e).exporters
  unfolding begin
  exporter-serials = serials-placed serial_of_exporter (exporter_at e) (λ k. refl) (length e.exporters)

  object-serials : Serials serial_of_object (begin e).objects
  unfolding begin
  object-serials = serials-placed serial_of_object (object_at e) (λ k. refl) (length e.objects)

  -- an object among the entries
  object-in : (k : ℕ) → k < length e.objects → In (get_or e.objects k no_object) e.objects
  object-in k b = rw (tabulate-get_or e.objects no_object) at (in-tabulate (length e.objects) (λ j. get_or e.objects j no_object) k b)

  -- ---- nothing is gone

  -- no exporter is removed
  none-removed : (o : ObjectLife) → exporter_removed (begin e) o ≡ false
  unfolding begin
  none-removed o =
      in-none (λ (x : ExporterLife). eqb x.serial o.exporter && x.removed) (tabulate (length e.exporters) (exporter_at e))
      (λ x m. let r = tabulate-in (length e.exporters) (exporter_at e) m in
      ap (λ (q : ExporterLife). eqb x.serial o.exporter && q.removed) r.2 ∙ and-false (eqb x.serial o.exporter))

  -- each object has an interface that is not at zero
  some_left : (k : ℕ) → k < length e.objects → interfaces_at_zero (begin e) (object_at e k) ≡ false
  unfolding begin
  some_left k b =
      ⊎_elim
      (λ t.
      let o : Object = get_or e.objects k no_object in
      let r = some_in (λ (i : Interface). eqb o.oid i.object) e.interfaces (every_in (has_interface e) (object-in k b) sound-clauses.objects_have_interfaces) in
      let i = r.0 in
      let l = objects-length in
      let live = every_in (λ (j : Interface). among (oids e) j.object) r.1 sound-clauses.interface_objects_live in
      let own : eqb k (place_of (oids e) i.object) ≡ true = place-only (oids e) i.object live k (oids-distinct e s) (omega arith) ∙ ap (λ (n : ℕ). eqb n i.object) (oid-at k b) ∙ r.2 in
      let zero = every_in (λ (p : InterfaceLife). not (eqb p.object k) || at_zero p) (Memᴰ.map (interface_held e) r.1) t in
      absurd (true≢false (sym zero ∙ both _ k _ (sym (eqb-true k _ own)) (held-left e i (every_in held r.1 sound-clauses.interfaces_held)))))
      (λ f. f)
      (true-or-false (interfaces_at_zero (begin e) (object_at e k)))
    where
      both : (p q : ℕ) (z : Bool) → p ≡ q → z ≡ false → (not (eqb p q) || z) ≡ false
      both p q z a c = cc (eq-eqb p q a, c)

  -- each is heard
  none-unheard : (k : ℕ) → k < length e.objects → unheard (begin e) (object_at e k) ≡ false
  unfolding begin
  none-unheard k b =
      let o : Object = get_or e.objects k no_object in
      heard-lately o.noping (leb 360 (e.clock - o.heard))
      (every_in (heard_within e.clock) (object-in k b) sound-clauses.heard_recently)

  none-gone : (k : ℕ) → k < length e.objects → object_gone (begin e) (object_at e k) ≡ false
  none-gone k b = (λ u. some_left k b u || none-removed (object_at e k) u || none-unheard k b u)

  all_live : live_objects (begin e) ≡ tabulate (length e.objects) (object_at e)
  unfolding begin
  all_live =
      keep_all (λ o. not (object_gone (begin e) o)) (tabulate (length e.objects) (object_at e))
      (every-tabulate (λ o. not (object_gone (begin e) o)) (length e.objects) (object_at e) (λ k b. ap not (none-gone k b)))

  -- ---- the live entries, kind by kind

  begin-exporters : map exporter_entry (live_exporters (begin e)) ≡ e.exporters
  unfolding begin
  begin-exporters =
      ap (map exporter_entry)
      (keep_all (λ (x : ExporterLife). not x.removed) (tabulate (length e.exporters) (exporter_at e))
      (every-tabulate (λ (x : ExporterLife). not x.removed) (length e.exporters) (exporter_at e) (λ k b. refl)))
      ∙ map-tabulate exporter_entry (length e.exporters) (exporter_at e)
      ∙ tabulate-get_or e.exporters no_exporter

  begin-objects : map (object_entry (begin e)) (live_objects (begin e)) ≡ e.objects
  unfolding exporter-named
  begin-objects =
      rw (all_live, map-tabulate) (tabulate-ext _ _ _ entry ∙ tabulate-get_or e.objects no_object)
    where
      entry : (k : ℕ) → k < length e.objects → object_entry (begin e) (object_at e k) ≡ get_or e.objects k no_object
      entry k b u =
          let o : Object = get_or e.objects k no_object in
          let t = every_in (λ (p : Object). among (oxids e) p.exporter) (object-in k b) sound-clauses.object_exporters_live in
          record {
            oid = o.oid;
            exporter =
                (ap (λ (x : ExporterLife). x.oxid) (life-found serial_of_exporter no_exporter_life exporter-serials (exporter-named o.exporter t))
                ∙ exporter-oxid o.exporter t) u;
            noping = o.noping;
            heard = o.heard;
          }

  module _ (i : Interface) (m : In i e.interfaces) where
    object-live : among (oids e) i.object ≡ true
    object-live = every_in (λ (j : Interface). among (oids e) j.object) m sound-clauses.interface_objects_live

    begin-live : live_interface (begin e) (interface_held e i) ≡ true
    begin-live =
        let k : ℕ = place_of (oids e) i.object in
        let b = place-below (oids e) i.object object-live in
        let l = objects-length in
        and_intro (not (at_zero (interface_held e i))) _
        (ap not (held-left e i (every_in held m sound-clauses.interfaces_held)))
        (rw all_live (in_some (λ (o : ObjectLife). eqb o.serial k) (in-tabulate (length e.objects) (object_at e) k (omega arith)) (eq-eqb k k refl)))

    begin-interface : interface_entry (begin e) (interface_held e i) ≡ i
    unfolding object-named
    begin-interface u =
        record {
          ipid = i.ipid;
          iid = i.iid;
          object =
              (ap (λ (o : ObjectLife). o.oid) (life-found serial_of_object no_object_life object-serials (object-named i.object object-live))
              ∙ object-oid i.object object-live) u;
          counts = begun-left i.counts u;
        }

  begin-interfaces : map (interface_entry (begin e)) (keep (live_interface (begin e)) (begin e).interfaces) ≡ e.interfaces
  unfolding begin
  begin-interfaces =
      ap (map (interface_entry (begin e)))
      (keep_all _ _ (in-every _ _ (λ l m. let r = map-in (interface_held e) e.interfaces m in ap (live_interface (begin e)) r.2 ∙ begin-live r.0 r.1)))
      ∙ map-map (interface_entry (begin e)) (interface_held e) e.interfaces
      ∙ map-ext-in _ (λ i. i) _ begin-interface
      ∙ map-id _

  -- the members of a set, in the order of the objects
  begin-members : (p : PingSet) → In p e.sets → (set_entry (begin e) (set_held e p)).members ≡ keep (among p.members) (oids e)
  begin-members p m =
      rw all_live
      (ap (map (λ (o : ObjectLife). o.oid))
      (keep-ext-in _ (λ (o : ObjectLife). among p.members o.oid) _ (λ o n.
      let r = tabulate-in (length e.objects) (object_at e) n in
      ap (λ (q : ObjectLife). among (set_held e p).members q.serial) r.2 ∙ member r.0 r.1 ∙ ap (λ (q : ObjectLife). among p.members q.oid) (sym r.2)))
      ∙ sym (keep-map _ _ _)
      ∙ ap (keep (among p.members))
      (map-tabulate _ _ _ ∙ sym (map-tabulate (λ (o : Object). o.oid) _ _) ∙ ap (map (λ (o : Object). o.oid)) (tabulate-get_or e.objects no_object)))
    where
      -- of one member
      one : (k : ℕ) → k < length e.objects → (q : ℕ) → In q p.members → eqb k (place_of (oids e) q) ≡ eqb (object_at e k).oid q
      one k b q n =
          let l = objects-length in
          let t = every_in (among (oids e)) n (every_in (λ (r : PingSet). every (among (oids e)) r.members) m sound-clauses.set_members_live) in
          place-only (oids e) q t k (oids-distinct e s) (omega arith) ∙ ap (λ (j : ℕ). eqb j q) (oid-at k b)

      -- of all
      member : (k : ℕ) → k < length e.objects → among (set_held e p).members k ≡ among p.members (object_at e k).oid
      member k b =
          some-map (eqb k) (place_of (oids e)) p.members
          ∙ same_test _ _
          (λ t. let r = some_in _ p.members t in in_some (eqb (object_at e k).oid) r.1 (sym (one k b r.0 r.1) ∙ r.2))
          (λ t. let r = some_in _ p.members t in in_some (λ q. eqb k (place_of (oids e) q)) r.1 (one k b r.0 r.1 ∙ r.2))

  module _ (ordered : Ordered e) where
    begin-set : (p : PingSet) → In p e.sets → set_entry (begin e) (set_held e p) ≡ p
    begin-set p m u =
        record {
          number = p.number;
          sequence = p.sequence;
          pinged = p.pinged;
          members = (begin-members p m ∙ images-in (λ (q : PingSet). keep (among q.members) (oids e)) (λ q. q.members) e.sets ordered m) u;
        }

    begin-sets : map (set_entry (begin e)) (keep (live_set (begin e)) (begin e).sets) ≡ e.sets
    unfolding begin
    begin-sets =
        ap (map (set_entry (begin e)))
        (keep_all _ _ (in-every _ _ (λ l m.
        let r = map-in (set_held e) e.sets m in
        ap (live_set (begin e)) r.2 ∙ every_in (pinged_within e.clock) r.1 sound-clauses.pinged_recently)))
        ∙ map-map (set_entry (begin e)) (set_held e) e.sets
        ∙ map-ext-in _ (λ p. p) _ begin-set
        ∙ map-id _

-- a history that begins at sound entries has exactly these for its live entries
pub live-begin : BeginsAt
unfolding live begin
live-begin e s ordered u =
    record {
      clock = e.clock;
      next = e.next;
      exporters = begin-exporters e s u;
      objects = begin-objects e s u;
      interfaces = begin-interfaces e s u;
      sets = begin-sets e s ordered u;
    }

-- what holds of every history
pub kept-begin : (e : Entries) → sound e ≡ true → Ordered e → Kept (begin e)
unfolding begin
kept-begin e s ordered =
    record {
      exporters = exporter-serials e s;
      objects = object-serials e s;
      exported = λ o m. let r = tabulate-in (length e.objects) (object_at e) m in
          rw (ap (λ (p : ObjectLife). p.exporter) r.2)
          (exporter-named e s _ (every_in (λ (p : Object). among (oxids e) p.exporter) (object-in e s r.0 r.1) (sound-fields e s).object_exporters_live));
      owned = λ l m. let r = map-in (interface_held e) e.interfaces m in
          rw (ap (λ (p : InterfaceLife). p.object) r.2) (object-named e s r.0.object (object-live e s r.0 r.1));
      bounded = λ l m. let r = map-in (interface_held e) e.interfaces m in
          record { each = ap (λ (p : InterfaceLife). every covered p.accounts) r.2 ∙ begun-covered r.0.counts };
      members = λ l m k n.
          let r = map-in (set_held e) e.sets m in
          let q = map-in (place_of (oids e)) r.0.members (rw (ap (λ (p : SetLife). p.members) r.2) at n) in
          let t = every_in (among (oids e)) q.1 (every_in (λ (p : PingSet). every (among (oids e)) p.members) r.1 (sound-fields e s).set_members_live) in
          let b = place-below (oids e) q.0 t in
          let z = q.2 in
          let c = objects-length e s in
          let d = length-tabulate (length e.objects) (object_at e) in
          omega arith;
      latest = λ o p m n q.
          let r = tabulate-in (length e.objects) (object_at e) (keep-in (λ l. not (object_gone (begin e) l)) (begin e).objects m).0 in
          let w = tabulate-in (length e.objects) (object_at e) n in
          let c = objects-length e s in
          let a : o.serial ≡ r.0 = ap (λ (l : ObjectLife). l.serial) r.2 in
          let b : p.serial ≡ w.0 = ap (λ (l : ObjectLife). l.serial) w.2 in
          let rb = r.1 in
          let wb = w.1 in
          let same : r.0 ≡ w.0 =
          distinct-at eqb eqb-decides (oids e) 0 (oids-distinct e s) r.0 w.0 (omega arith) (omega arith)
          (oid-at e s r.0 rb ∙ sym (ap (λ (l : ObjectLife). l.oid) r.2) ∙ q ∙ ap (λ (l : ObjectLife). l.oid) w.2 ∙ sym (oid-at e s w.0 wb)) in
          omega arith;
      sound = ap sound (live-begin e s ordered) ∙ s;
    }

-- ---- no entries

pub live-fresh : (t : ℕ) → live (begin (fresh t)) ≡ fresh t
live-fresh t = live-begin (fresh t) (fresh-sound t) refl

pub kept_fresh : (t : ℕ) → Kept (begin (fresh t))
kept_fresh t = kept-begin (fresh t) (fresh-sound t) refl
