-- The calls by which objects go: what leaves the live entries is what is gone in the history.
use Prim.Native.Nat.{ℕ, ◌-◌, ◌≤◌}
use mathlib.Core.Path.{◌≡◌, refl, sym, ap, ◌∙◌}
use mathlib.Core.Bool.{Bool, true, false, cond, not, ◌&&◌, ◌||◌, and-true, and-false}
use mathlib.Core.List.Memᴰ
use mathlib.Core.List.{List, map, map-id}
use mathlib.Core.Logic.{⊎_elim}
use native.Mathlib.Omega.{arith}
use borrow.Author.Tests.{eqb-true, leb-true, le-leb, ltb-false, not-true}
use lib.Dec.{eqb, leb}
use Rattle.kinds.proofs.Refusing.{passed, by-test}
use Rattle.lists.specs.Lists.{keep, some, among}
use Rattle.lists.proofs.Tests.{true-or-false}
use Rattle.lists.proofs.Lists.{some-map, some-kept-none, keep-map, keep-comm, keep-keep, keep-ext, map-map, map-ext, map-unread}
use Rattle.rules.specs.Entries.{Exporter, Object, Interface, PingSet, Entries, with_clock, with_exporters, with_sets, with_members}
use Rattle.rules.specs.Calls.{editing, remove_exporter, clock}
use Rattle.rules.specs.Sound.{sound, heard_within, pinged_within}
use Rattle.rules.specs.Rules.{number, next, refusals, without_objects}
use Rattle.rules.proofs.LeavingKeeps.{clock-next}
use Rattle.history.specs.History.{ExporterLife, ObjectLife, InterfaceLife, SetLife, History, at_zero, interfaces_at_zero, exporter_removed, unheard, object_gone, live_exporters, live_objects}
use Rattle.history.specs.History.{live_interface, no_exporter_life, exporter_entry, object_entry, interface_entry, set_entry, live, at_clock, with_exporter_lives, removed_life, lived}
use Rattle.lists.proofs.Elements.{In, some_in, keep-in, map-ext-in, keep-ext-in, kept-changed, first-unread, first-sole, some-sole, kept-sole}
use Rattle.history.proofs.Lives.{serial_of_exporter, named-sole, Kept, kept_from, still}
use Rattle.history.proofs.Identities.{live-sole, owner-oid, one-oid, among-oids}
use Rattle.history.proofs.Steps.{interfaces_over, sets_over, clock-live, Step, stepped}

-- ---- what goes along with objects

-- the entries of these lives, with these exporters
abbrev pub entries_over : History → ℕ → List Exporter → List ObjectLife → List InterfaceLife → List SetLife → Entries
entries_over h now xs lives is ss =
    record { clock = now; next = h.next; exporters = xs; objects = map (object_entry h) lives; interfaces = interfaces_over lives h.objects is; sets = sets_over now lives ss }

module _ (h : History) (k : Kept h) (stays : Object → Bool) where
  -- the live objects that stay
  abbrev stayed : List ObjectLife
  stayed = keep (λ o. stays (object_entry h o)) (live_objects h)

  -- their OIDs
  abbrev left_oids : List ℕ
  left_oids = map (λ (p : Object). p.oid) (keep stays (map (object_entry h) (live_objects h)))

  -- their entries
  left-entries : keep stays (map (object_entry h) (live_objects h)) ≡ map (object_entry h) stayed
  left-entries = keep-map stays (object_entry h) (live_objects h)

  -- the OID of a live object is left where the object stays
  left-oid : (o : ObjectLife) → In o (live_objects h) → among left_oids o.oid ≡ stays (object_entry h o)
  left-oid o m = cc (left-entries, map-map (λ (p : Object). p.oid) (object_entry h) stayed, among-oids h (one-oid h k) (λ p. stays (object_entry h p)) o m)

  -- an interface that is not at zero is left where its object stays
  left-interface : (l : InterfaceLife)
      → (live_interface h l && among left_oids (interface_entry h l).object) ≡ (not (at_zero l) && some (λ (p : ObjectLife). eqb p.serial l.object) stayed)
  left-interface l =
      ⊎_elim
      (λ t.
      let r = some_in owner (live_objects h) t in
      let e = eqb-true r.0.serial l.object r.2 in
      ap (λ (b : Bool). not (at_zero l) && b && among left_oids (interface_entry h l).object) t
      ∙ ap (λ (b : Bool). b && among left_oids (interface_entry h l).object) (and-true (not (at_zero l)))
      ∙ ap (λ (b : Bool). not (at_zero l) && b)
      (ap (among left_oids) (owner-oid h k l r.0 r.1 e)
      ∙ left-oid r.0 r.1
      ∙ sym (kept-sole owner (live-sole h k r.0 r.1 l.object e) (λ p. stays (object_entry h p)))))
      (λ f.
      ap (λ (b : Bool). not (at_zero l) && b && among left_oids (interface_entry h l).object) f
      ∙ ap (λ (b : Bool). b && among left_oids (interface_entry h l).object) (and-false (not (at_zero l)))
      ∙ sym (and-false (not (at_zero l)))
      ∙ ap (λ (b : Bool). not (at_zero l) && b) (sym (some-kept-none owner (λ o. stays (object_entry h o)) (live_objects h) f)))
      (true-or-false (some owner (live_objects h)))
    where
      owner : ObjectLife → Bool
      owner p = eqb p.serial l.object

  -- the interfaces of objects that stay, and the members that do
  pub goes-along : (now : ℕ) (xs : List Exporter) (is : List InterfaceLife) (ss : List SetLife)
      → without_objects stays (entries_over h now xs (live_objects h) is ss) ≡ entries_over h now xs stayed is ss
  goes-along now xs is ss =
      λ u.
      record {
        clock = now;
        next = h.next;
        exporters = xs;
        objects = left-entries u;
        interfaces =
            (keep-map (λ (i : Interface). among left_oids i.object) (interface_entry h) (keep (live_interface h) is)
            ∙ ap (map (interface_entry h))
            (keep-keep (λ l. among left_oids (interface_entry h l).object) (live_interface h) is
            ∙ keep-ext _ _ left-interface is)) u;
        sets =
            (map-map (λ (s : PingSet). with_members (keep (among left_oids) s.members) s) (set_entry h) (keep alive ss)
            ∙ map-ext-in _ _ (keep alive ss)
            (λ s m v.
            record {
              number = s.number;
              sequence = s.sequence;
              pinged = s.pinged;
              members =
                  (keep-map (among left_oids) (λ (o : ObjectLife). o.oid) (keep (λ (o : ObjectLife). among s.members o.serial) (live_objects h))
                  ∙ ap (map (λ (o : ObjectLife). o.oid))
                  (keep-ext-in (λ o. among left_oids o.oid) (λ o. stays (object_entry h o)) (keep (λ (o : ObjectLife). among s.members o.serial) (live_objects h))
                  (λ o w. left-oid o (keep-in (λ (p : ObjectLife). among s.members p.serial) (live_objects h) w).0)
                  ∙ keep-comm (λ o. stays (object_entry h o)) (λ (o : ObjectLife). among s.members o.serial) (live_objects h))) v;
            })) u;
      }
    where
      alive : SetLife → Bool
      alive s = not (leb 360 (now - s.pinged))

-- ---- the clock

-- of an object at a later time: gone then, or not gone before and still in time
later-gone : (zero removed noping before after : Bool) → (before ≡ true → after ≡ true)
    → not (zero || removed || (not noping && after)) ≡ (not (zero || removed || (not noping && before)) && (noping || not after))
later-gone true removed noping before after f = refl
later-gone false true noping before after f = refl
later-gone false false true before after f = refl
later-gone false false false true after f = ap not (f refl)
later-gone false false false false after f = refl

-- what is overdue stays so
overdue-later : (now then t : ℕ) → now ≤ then → leb 360 (now - t) ≡ true → leb 360 (then - t) ≡ true
overdue-later now then t h b = let l = leb-true 360 (now - t) b in le-leb 360 (then - t) (omega arith)

-- two tests of which the second passes only what the first does
both_later : (before after : Bool) → (before ≡ true → after ≡ true) → (not before && not after) ≡ not after
both_later true after f = sym (ap not (f refl))
both_later false after f = refl

module _ (h : History) (k : Kept h) (t : ℕ) (later : h.clock ≤ t) where
  -- the objects that are in time
  clock-objects : live_objects (at_clock t h) ≡ keep (λ o. heard_within t (object_entry h o)) (live_objects h)
  clock-objects =
      keep-ext _ _ (λ o. later-gone (interfaces_at_zero h o) (exporter_removed h o) o.noping _ _ (overdue-later h.clock t o.heard later)) h.objects ∙ sym (keep-keep _ _ _)

  -- the sets that are
  clock-sets : keep (pinged_within t) (sets_over h.clock (live_objects h) h.sets) ≡ sets_over t (live_objects h) h.sets
  clock-sets =
      keep-map (pinged_within t) (set_entry h) _
      ∙ ap (map (set_entry h)) (keep-keep _ _ h.sets ∙ keep-ext _ _ (λ s. both_later _ _ (overdue-later h.clock t s.pinged later)) h.sets)

  -- the live entries at the later time
  clock-entries : live (at_clock t h) ≡ without_objects (heard_within t) (with_clock t (with_sets (keep (pinged_within t) (live h).sets) (live h)))
  unfolding live
  clock-entries =
      ap (λ (os : List ObjectLife). entries_over h t (map exporter_entry (live_exporters h)) os h.interfaces h.sets) clock-objects
      ∙ sym (goes-along h k (heard_within t) t (map exporter_entry (live_exporters h)) h.interfaces h.sets)
      ∙ ap (λ (ss : List PingSet). without_objects (heard_within t) (with_clock t (with_sets ss (live h)))) (sym clock-sets)

  -- the history at the later time
  clock-kept : sound (live (at_clock t h)) ≡ true → Kept (at_clock t h)
  clock-kept s =
      kept_from h (at_clock t h) k refl refl refl k.bounded k.members
      (λ o m. Memᴰ.map still (keep-in (λ p. heard_within t (object_entry h p)) (live_objects h) (rw clock-objects at m)).0) s

-- what its refusal leaves
pub clock-accepted : (e : Entries) (t : ℕ) → number (editing (clock t)) e ≡ 0 → e.clock ≤ t
unfolding number refusals
clock-accepted e t a = ltb-false t e.clock (passed _ 2 _ (omega arith) a).0

-- clock
pub clock-step : (h : History) → Kept h → (t : ℕ) → number (editing (clock t)) (live h) ≡ 0 → Step (editing (clock t)) h
unfolding lived
clock-step h k t a =
    let b : h.clock ≤ t = rw (clock-live h) at (clock-accepted (live h) t a) in
    stepped (editing (clock t)) h k a (clock-entries h k t b ∙ sym (clock-next (live h) t)) (clock-kept h k t b)

-- ---- an exporter's removal

-- of an object whose exporter may be the removed one: gone by this too
removed-gone : (zero own removed late : Bool) → not (zero || (own || removed) || late) ≡ (not (zero || removed || late) && not own)
removed-gone true own removed late = refl
removed-gone false true removed late = sym (and-false (not (removed || late)))
removed-gone false false removed late = sym (and-true (not (removed || late)))

module _ (h : History) (k : Kept h) (x : ℕ) where
  -- an exporter life with the OXID is removed
  abbrev removal : ExporterLife → ExporterLife
  removal p = cond (eqb x p.oxid) (removed_life p) p

  abbrev without_exporter : History
  without_exporter = with_exporter_lives (map removal h.exporters) h

  abbrev other_exporter : Object → Bool
  other_exporter o = not (eqb x o.exporter)

  -- it keeps the serial
  removal-serial : (p : ExporterLife) → (removal p).serial ≡ p.serial
  removal-serial p = by-test (λ (q : ExporterLife). q.serial ≡ p.serial) (eqb x p.oxid) (removed_life p) p (λ t. refl) (λ f. refl)

  -- it keeps the OXID
  removal-oxid : (p : ExporterLife) → (removal p).oxid ≡ p.oxid
  removal-oxid p = by-test (λ (q : ExporterLife). q.oxid ≡ p.oxid) (eqb x p.oxid) (removed_life p) p (λ t. refl) (λ f. refl)

  -- it is removed by this call or was before
  removal-removed : (p : ExporterLife) → (removal p).removed ≡ (eqb x p.oxid || p.removed)
  removal-removed p = ⊎_elim (λ t. rw t) (λ f. rw f) (true-or-false (eqb x p.oxid))

  -- each object names the exporter that it named
  removal-entry : (o : ObjectLife) → object_entry without_exporter o ≡ object_entry h o
  removal-entry o u =
      record {
        oid = o.oid;
        exporter =
            first-unread no_exporter_life (λ (p : ExporterLife). eqb p.serial o.exporter) (λ p. p.oxid) removal
            (λ p. ap (λ (n : ℕ). eqb n o.exporter) (removal-serial p)) removal-oxid h.exporters u;
        noping = o.noping;
        heard = o.heard;
      }

  -- an object goes with its exporter
  removal-gone : (o : ObjectLife) → In o h.objects → not (object_gone without_exporter o) ≡ (not (object_gone h o) && other_exporter (object_entry h o))
  removal-gone o m =
      let s = named-sole serial_of_exporter k.exporters (k.exported o m) in
      let r = some-sole (λ (p : ExporterLife). eqb p.serial o.exporter) s (λ p. p.removed) in
      ap (λ (b : Bool). not (interfaces_at_zero h o || b || unheard h o))
      (some-map (λ (p : ExporterLife). eqb p.serial o.exporter && p.removed) removal h.exporters
      ∙ (λ u. some (λ (p : ExporterLife). eqb (removal-serial p u) o.exporter && removal-removed p u) h.exporters)
      ∙ some-sole (λ (p : ExporterLife). eqb p.serial o.exporter) s (λ p. eqb x p.oxid || p.removed)
      ∙ sym (λ u. eqb x (first-sole (λ (p : ExporterLife). eqb p.serial o.exporter) no_exporter_life s u).oxid || r u))
      ∙ removed-gone (interfaces_at_zero h o) (eqb x (object_entry h o).exporter) (exporter_removed h o) (unheard h o)

  -- the objects of other exporters
  removal-objects : live_objects without_exporter ≡ keep (λ o. other_exporter (object_entry h o)) (live_objects h)
  removal-objects =
      keep-ext-in _ _ _ removal-gone ∙ sym (keep-keep _ _ _)

  -- the other exporters
  removal-exporters : map exporter_entry (live_exporters without_exporter) ≡ keep (λ (p : Exporter). not (eqb x p.oxid)) (live h).exporters
  unfolding live
  removal-exporters =
      kept-changed removal (λ p. not p.removed) _ exporter_entry exporter_entry (λ p. not (eqb x p.oxid)) (λ p. p) h.exporters
      (λ p m. ap not (removal-removed p) ∙ nor (eqb x p.oxid) p.removed)
      (λ p m a b. ap (λ (c : Bool). exporter_entry (cond c (removed_life p) p)) (not-true (eqb x p.oxid) b))
      ∙ map-id _
    where
      nor : (a b : Bool) → not (a || b) ≡ (not b && not a)
      nor true b = sym (and-false (not b))
      nor false b = sym (and-true (not b))

  -- the live entries without the exporter
  removal-entries : live without_exporter
      ≡ with_exporters (keep (λ (p : Exporter). not (eqb x p.oxid)) (live h).exporters) (without_objects other_exporter (live h))
  unfolding live
  removal-entries =
      (λ u.
      record {
        clock = h.clock;
        next = h.next;
        exporters = removal-exporters u;
        objects = (map-ext (object_entry without_exporter) (object_entry h) removal-entry (live_objects without_exporter) ∙ ap (map (object_entry h)) removal-objects) u;
        interfaces = interfaces_over (removal-objects u) h.objects h.interfaces;
        sets = sets_over h.clock (removal-objects u) h.sets;
      })
      ∙ ap (with_exporters (keep (λ (p : Exporter). not (eqb x p.oxid)) (live h).exporters))
      (sym (goes-along h k other_exporter h.clock (map exporter_entry (live_exporters h)) h.interfaces h.sets))

  -- the history without the exporter
  removal-kept : sound (live without_exporter) ≡ true → Kept without_exporter
  removal-kept s =
      kept_from h without_exporter k (map-unread serial_of_exporter removal removal-serial h.exporters) refl refl k.bounded k.members
      (λ o m. Memᴰ.map still (keep-in (λ p. other_exporter (object_entry h p)) (live_objects h) (rw removal-objects at m)).0) s

-- remove exporter
pub removal-step : (h : History) → Kept h → (x : ℕ) → number (editing (remove_exporter x)) (live h) ≡ 0 → Step (editing (remove_exporter x)) h
unfolding lived next
removal-step h k x a = stepped (editing (remove_exporter x)) h k a (removal-entries h k x) (removal-kept h k x)
