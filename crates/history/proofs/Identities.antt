-- Distinct live identifiers mean one live life for each.
use Prim.Native.Nat.{ℕ}
use mathlib.Core.Path.{◌≡◌, refl, ap, ◌∙◌}
use mathlib.Core.Bool.{Bool, true, false, not}
use mathlib.Core.List.{List, map}
use borrow.Author.Tests.{not-true}
use lib.Dec.{eqb}
use Rattle.lists.specs.Lists.{keep, among, distinct}
use Rattle.lists.specs.Guids.{same_guid}
use Rattle.lists.proofs.Lists.{some-map, map-map}
use Rattle.lists.proofs.Distinct.{eqb-decides, distinct-map-keep}
use Rattle.lists.proofs.Elements.{In, keep-in, Sole, kept-sole, sole-by, sole-key, sole-image}
use Rattle.rules.specs.Entries.{Exporter, Object, Interface, PingSet}
use Rattle.rules.specs.Rules.{is_live_exporter, is_live_object, is_live_set}
use Rattle.rules.proofs.ByRow.{oxids-distinct, oids-distinct, sets-distinct, interfaces-distinct}
use Rattle.history.specs.History.{ExporterLife, ObjectLife, InterfaceLife, SetLife, History, object_gone, live_exporters, live_objects, live_interface}
use Rattle.history.specs.History.{live_set, no_object_life, exporter_entry, object_entry, interface_entry, set_entry, live, object_serials}
use Rattle.history.proofs.Lives.{Kept, serial_of_object, life-found}

-- a live object is an object that is not gone
pub live-object : (h : History) {o : ObjectLife} → In o (live_objects h) → In o h.objects × (object_gone h o ≡ false)
live-object h {o} m = let r = keep-in (λ p. not (object_gone h p)) h.objects m in (r.0, not-true (object_gone h o) r.1)

-- where OIDs of live objects are distinct: of those that pass r, an OID is one where its object passes
pub among-oids : (h : History) → distinct eqb (map (λ (o : ObjectLife). o.oid) (live_objects h)) ≡ true → (r : ObjectLife → Bool) (o : ObjectLife) → In o (live_objects h)
    → among (map (λ (p : ObjectLife). p.oid) (keep r (live_objects h))) o.oid ≡ r o
among-oids h u r o m =
    some-map _ _ _ ∙ kept-sole (λ (p : ObjectLife). eqb o.oid p.oid) (sole-key eqb eqb-decides (λ (p : ObjectLife). p.oid) o.oid u m refl) r

module _ (h : History) (k : Kept h) where
  -- ---- the life of a live identifier

  -- of an OXID
  pub found-exporter : (x : ℕ) → is_live_exporter (live h) x ≡ true → (p : ExporterLife) × Sole (λ (q : ExporterLife). eqb x q.oxid) (live_exporters h) p
  unfolding live
  found-exporter x t = sole-image eqb eqb-decides (λ (p : Exporter). p.oxid) exporter_entry x (live_exporters h) (oxids-distinct (live h) k.sound) t

  -- of an OID
  pub found-object : (o : ℕ) → is_live_object (live h) o ≡ true → (p : ObjectLife) × Sole (λ (q : ObjectLife). eqb o q.oid) (live_objects h) p
  unfolding live
  found-object o t = sole-image eqb eqb-decides (λ (p : Object). p.oid) (object_entry h) o (live_objects h) (oids-distinct (live h) k.sound) t

  -- of a set number
  pub found-set : (s : ℕ) → is_live_set (live h) s ≡ true → (p : SetLife) × Sole (λ (q : SetLife). eqb s q.number) (keep (live_set h) h.sets) p
  unfolding live
  found-set s t = sole-image eqb eqb-decides (λ (p : PingSet). p.number) (set_entry h) s (keep (live_set h) h.sets) (sets-distinct (live h) k.sound) t

  -- IPIDs of live interfaces are distinct
  pub one-ipid : distinct same_guid (map (λ (l : InterfaceLife). l.ipid) (keep (live_interface h) h.interfaces)) ≡ true
  unfolding live
  one-ipid = cc (map-map (λ (i : Interface). i.ipid) (interface_entry h) (keep (live_interface h) h.interfaces), interfaces-distinct (live h) k.sound)

  -- ---- live objects by OID and by serial

  -- OIDs of live objects are distinct
  pub one-oid : distinct eqb (map (λ (o : ObjectLife). o.oid) (live_objects h)) ≡ true
  unfolding live
  one-oid = cc (map-map (λ (o : Object). o.oid) (object_entry h) (live_objects h), oids-distinct (live h) k.sound)

  -- so are their serials
  one-serial : distinct eqb (map serial_of_object (live_objects h)) ≡ true
  one-serial = distinct-map-keep eqb serial_of_object (λ o. not (object_gone h o)) h.objects k.objects.differ

  -- a live object is the only one with its serial
  pub live-sole : (o : ObjectLife) → In o (live_objects h) → (n : ℕ) → o.serial ≡ n → Sole (λ (p : ObjectLife). eqb p.serial n) (live_objects h) o
  live-sole o m n e = sole-by eqb eqb-decides serial_of_object n one-serial m e

  -- an interface that names it has its OID
  pub owner-oid : (l : InterfaceLife) (o : ObjectLife) → In o (live_objects h) → o.serial ≡ l.object → (interface_entry h l).object ≡ o.oid
  owner-oid l o m e = ap (λ (p : ObjectLife). p.oid) (life-found serial_of_object no_object_life k.objects (record { life = o; here = (live-object h m).0; named = e }))

  -- of the live objects with one of these OIDs: a serial is one where its object's OID is one of these
  pub among-serials : (ids : List ℕ) (o : ObjectLife) → In o (live_objects h) → among (object_serials h ids) o.serial ≡ among ids o.oid
  among-serials ids o m =
      some-map _ serial_of_object _ ∙ kept-sole _ (sole-key eqb eqb-decides serial_of_object o.serial one-serial m refl) (λ p. among ids p.oid)
