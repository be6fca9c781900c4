-- The calls by which objects go leave sound entries: with an object go its interfaces and its place in every set.
use Prim.Native.Nat.{ℕ, ◌≤◌}
use mathlib.Core.Path.{◌≡◌, refl, ap, ◌∙◌}
use mathlib.Core.Bool.{Bool, true, not}
use mathlib.Core.List.{List, map}
use native.Mathlib.Omega.{arith}
use borrow.Author.Tests.{leb-true, le-leb}
use lib.Dec.{eqb, leb}
use Rattle.kinds.specs.declared.Guid.{Guid}
use Rattle.lists.specs.Lists.{keep, every, among}
use Rattle.lists.specs.Guids.{nil, same_guid}
use Rattle.lists.proofs.Lists.{every_map, every-mono, every-mono-on, every-from-at, every-kept, keep-map, keep-passes, map-unread, map-unread-at}
use Rattle.lists.proofs.Distinct.{eqb-decides, some_same, some-same-keep-map, sublist-whole, sublist-keep, sublist-append}
use Rattle.rules.specs.Entries.{Exporter, Object, Interface, PingSet, Entries, oxids, ipids, lists_length, with_clock, with_exporters, with_interfaces, with_sets, with_members}
use Rattle.rules.specs.Calls.{editing, clock}
use Rattle.rules.specs.Sound.{store_bytes, proper_guids, held, has_interface, pinged_within, heard_within}
use Rattle.rules.specs.Rules.{without_objects, at_interfaces, drop_empty, next}
use Rattle.rules.proofs.ListsLength.{bytes-kept}
use Rattle.rules.proofs.Groups.{fine-sublist, ExportersSound, ObjectsSound, SetsSound, Grouped, serving-objects}

-- each number is among the numbers
pub among-itself : (ns : List ℕ) → every (among ns) ns ≡ true
among-itself ns = every-from-at (among ns) 0 ns (λ j h. some_same eqb eqb-decides ns 0 j h)

-- ---- what is kept

-- lists that stay lie inside the store
inside-kept : (p : Exporter → Bool) (xs : List Exporter) → leb (lists_length xs) store_bytes ≡ true → leb (lists_length (keep p xs)) store_bytes ≡ true
inside-kept p xs h =
    let l = leb-true (lists_length xs) store_bytes h in
    let k = bytes-kept p xs in
    le-leb (lists_length (keep p xs)) store_bytes (omega arith)

-- exporters of which some are kept
exporters-kept : (p : Exporter → Bool) (xs : List Exporter) → ExportersSound xs → ExportersSound (keep p xs)
exporters-kept p xs s =
    record {
      ids = fine-sublist eqb 0 (sublist-keep (λ (x : Exporter). x.oxid) p xs) s.ids;
      lists = every-kept _ p xs s.lists;
      inside = inside-kept p xs s.inside;
    }

-- objects of which some are kept
objects-kept : {now : ℕ} {exporters : List ℕ} (p : Object → Bool) (os : List Object) → ObjectsSound now exporters os → ObjectsSound now exporters (keep p os)
objects-kept p os s =
    record {
      ids = fine-sublist eqb 0 (sublist-keep (λ (o : Object). o.oid) p os) s.ids;
      named = every-kept _ p os s.named;
      by_clock = every-kept _ p os s.by_clock;
      lately = every-kept _ p os s.lately;
    }

-- the IPIDs of what is kept
ids-kept : (p : Interface → Bool) (e : Entries) → proper_guids (ipids e) ≡ true → proper_guids (ipids (with_interfaces (keep p e.interfaces) e)) ≡ true
ids-kept p e h =
    fine-sublist same_guid nil
    (sublist-append (sublist-whole (map (λ (x : Exporter). x.unknown) e.exporters)) (sublist-keep (λ (i : Interface). i.ipid) p e.interfaces)) h

-- ---- what goes along with objects

-- the members that are left are live
sets-left : {now next : ℕ} {before : List ℕ} (objects : List ℕ) (ss : List PingSet) → SetsSound now next before ss
    → SetsSound now next objects (map (λ (s : PingSet). with_members (keep (among objects) s.members) s) ss)
sets-left {now} {next} {before} objects ss s =
    record {
      ids = rw (map-unread (λ (p : PingSet). p.number) left (λ p. refl) ss) s.ids;
      named =
          every_map (λ (p : PingSet). every (among objects) p.members) left ss
          ∙ every-mono (λ (p : PingSet). every (among before) p.members) (λ p. every (among objects) (left p).members)
          (λ p h. keep-passes (among objects) p.members) ss s.named;
      by_clock = every_map (λ (p : PingSet). leb p.pinged now) left ss ∙ s.by_clock;
      lately = every_map (pinged_within now) left ss ∙ s.lately;
      nonzero = s.nonzero;
      below = rw (map-unread (λ (p : PingSet). p.number) left (λ p. refl) ss) s.below;
    }
  where
    left : PingSet → PingSet
    left p = with_members (keep (among objects) p.members) p

-- an interface of a live object is left
serving-left : (objects : List ℕ) (is : List Interface) → every (among (map (λ (i : Interface). i.object) is)) objects ≡ true
    → every (among (map (λ (i : Interface). i.object) (keep (λ i. among objects i.object) is))) objects ≡ true
serving-left objects is h =
    every-mono-on (among objects) (among (map (λ (i : Interface). i.object) is))
    (among (map (λ (i : Interface). i.object) (keep (λ i. among objects i.object) is)))
    (λ n t u. some-same-keep-map eqb eqb-decides (among objects) (λ (i : Interface). i.object) n is ∙ rw (t, u))
    objects (among-itself objects) h

-- the objects that stay are sound and have interfaces; of the rest, only what names objects may name one that goes
pub objects-left : (stays : Object → Bool) (e : Entries) → ExportersSound e.exporters → ObjectsSound e.clock (oxids e) (keep stays e.objects)
    → proper_guids (ipids e) ≡ true → every held e.interfaces ≡ true
    → every (among (map (λ (i : Interface). i.object) e.interfaces)) (map (λ (o : Object). o.oid) (keep stays e.objects)) ≡ true
    → {before : List ℕ} → SetsSound e.clock e.next before e.sets → Grouped (without_objects stays e)
objects-left stays e x o i c v {before} s =
    record {
      exporters = x;
      objects = o;
      ids = ids-kept live e i;
      interfaces = record { named = keep-passes live e.interfaces; serving = serving-left left e.interfaces v; counted = every-kept held live e.interfaces c };
      sets = sets-left left e.sets s;
    }
  where
    left : List ℕ
    left = map (λ (p : Object). p.oid) (keep stays e.objects)

    live : Interface → Bool
    live p = among left p.object

-- every object that stays has an interface
stay-serving : (stays : Object → Bool) (e : Entries) → Grouped e
    → every (among (map (λ (i : Interface). i.object) e.interfaces)) (map (λ (o : Object). o.oid) (keep stays e.objects)) ≡ true
stay-serving stays e g = (sublist-keep (λ (o : Object). o.oid) stays e.objects).passes _ g.interfaces.serving

-- ---- the calls

-- an exporter removed with its objects
pub exporter-removed : (e : Entries) (x : ℕ) → Grouped e
    → Grouped (with_exporters (keep (λ (p : Exporter). not (eqb x p.oxid)) e.exporters) (without_objects (λ (o : Object). not (eqb x o.exporter)) e))
exporter-removed e x g =
    let kept = objects-kept stays e.objects g.objects in
    objects-left stays (with_exporters (keep other e.exporters) e)
    (exporters-kept other e.exporters g.exporters)
    (record {
      ids = kept.ids;
      named =
          every-mono-on stays (λ o. among (oxids e) o.exporter) (λ o. among (map (λ (p : Exporter). p.oxid) (keep other e.exporters)) o.exporter)
          (λ o t v. some-same-keep-map eqb eqb-decides (λ n. not (eqb x n)) (λ (p : Exporter). p.oxid) o.exporter e.exporters ∙ rw (t, v))
          (keep stays e.objects) (keep-passes stays e.objects) kept.named;
      by_clock = kept.by_clock;
      lately = kept.lately;
    })
    (fine-sublist same_guid nil
    (sublist-append (sublist-keep (λ (p : Exporter). p.unknown) other e.exporters) (sublist-whole (map (λ (i : Interface). i.ipid) e.interfaces))) g.ids)
    g.interfaces.counted
    (stay-serving stays e g)
    g.sets
  where
    stays : Object → Bool
    stays o = not (eqb x o.exporter)

    other : Exporter → Bool
    other p = not (eqb x p.oxid)

-- a time not above the clock is not above a later one
later : (t now then : ℕ) → now ≤ then → leb t now ≡ true → leb t then ≡ true
later t now then h b = let l = leb-true t now b in le-leb t then (omega arith)

-- sets may go before objects
pub clock-next : (e : Entries) (t : ℕ) → next (editing (clock t)) e ≡ without_objects (heard_within t) (with_clock t (with_sets (keep (pinged_within t) e.sets) e))
unfolding next
clock-next e t =
    ap (λ (l : List PingSet). with_clock t (with_sets l (without_objects (heard_within t) e)))
    (keep-map (pinged_within t) (λ (s : PingSet). with_members (keep (among (map (λ (o : Object). o.oid) (keep (heard_within t) e.objects))) s.members) s) e.sets)

-- the clock set, and what is overdue gone
pub clock-set : (e : Entries) (t : ℕ) → Grouped e → e.clock ≤ t → Grouped (next (editing (clock t)) e)
clock-set e t g h =
    rw (clock-next e t)
    (objects-left (heard_within t) (with_clock t (with_sets (keep (pinged_within t) e.sets) e))
    g.exporters
    (record {
      ids = kept.ids;
      named = kept.named;
      by_clock = every-mono (λ o. leb o.heard e.clock) (λ o. leb o.heard t) (λ o. later o.heard e.clock t h) (keep (heard_within t) e.objects) kept.by_clock;
      lately = keep-passes (heard_within t) e.objects;
    })
    g.ids
    g.interfaces.counted
    (stay-serving (heard_within t) e g)
    (record {
      ids = fine-sublist eqb 0 (sublist-keep (λ (s : PingSet). s.number) (pinged_within t) e.sets) g.sets.ids;
      named = every-kept _ (pinged_within t) e.sets g.sets.named;
      by_clock =
          every-kept _ (pinged_within t) e.sets
          (every-mono (λ s. leb s.pinged e.clock) (λ s. leb s.pinged t) (λ s. later s.pinged e.clock t h) e.sets g.sets.by_clock);
      lately = keep-passes (pinged_within t) e.sets;
      nonzero = g.sets.nonzero;
      below = (sublist-keep (λ (s : PingSet). s.number) (pinged_within t) e.sets).passes _ g.sets.below;
    }))
  where
    kept : ObjectsSound e.clock (oxids e) (keep (heard_within t) e.objects)
    kept = objects-kept (heard_within t) e.objects g.objects

-- the counts of interfaces changed in any way, and what is empty then dropped
pub counts-taken : (e : Entries) (t : Guid → Bool) (f : Interface → Interface) → ((r : Interface) → (f r).ipid ≡ r.ipid) → Grouped e → Grouped (drop_empty (at_interfaces t f e))
counts-taken e t f same g =
    objects-left (has_interface after) after
    g.exporters
    (objects-kept (has_interface after) e.objects g.objects)
    (ids-kept held (at_interfaces t f e) (rw (map-unread-at (λ (r : Interface). t r.ipid) f (λ r. r.ipid) same e.interfaces) g.ids))
    (keep-passes held (at_interfaces t f e).interfaces)
    (serving-objects (keep (has_interface after) e.objects) after.interfaces ∙ keep-passes (has_interface after) e.objects)
    g.sets
  where
    after : Entries
    after = with_interfaces (keep held (at_interfaces t f e).interfaces) (at_interfaces t f e)
