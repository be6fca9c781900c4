-- The calls that enter an entry or add references leave sound entries.
use Prim.Native.Nat.{ℕ, ◌+◌, ◌-◌, ◌≤◌}
use mathlib.Core.Path.{◌≡◌, refl, ◌∙◌}
use mathlib.Core.Bool.{Bool, true, false, ◌&&◌, ◌||◌, or-true}
use mathlib.Core.List.{List, [], ◌∷◌, ◌++◌, map, append_assoc}
use native.Mathlib.Omega.{arith}
use borrow.Author.Tests.{eq-eqb, le-leb, lt-leb}
use lib.ListN.{length}
use lib.Dec.{eqb, leb}
use Rattle.kinds.specs.declared.Guid.{Guid}
use Rattle.bindings.specs.Bindings.{list_answer}
use Rattle.lists.specs.Lists.{every, some, among}
use Rattle.lists.specs.Guids.{nil, same_guid}
use Rattle.lists.proofs.Tests.{and_intro}
use Rattle.lists.proofs.Lists.{every-snoc, every-mono, some-snoc, map-append, map-unread-at, every-changed-at}
use Rattle.lists.proofs.Distinct.{eqb-decides}
use Rattle.lists.proofs.Guids.{guid-decides}
use Rattle.rules.specs.Entries.{Exporter, Object, Interface, PingSet, Entries, oxids, oids, interface_ipids, ipids, lists_length, with_exporters, with_objects, with_interfaces}
use Rattle.rules.specs.Sound.{longest_list, store_bytes, proper_guids, held, overdue, heard_within}
use Rattle.rules.specs.Rules.{at_interface, increased}
use Rattle.rules.proofs.ChangedCounts.{increased-held}
use Rattle.rules.proofs.ListsLength.{bytes-snoc}
use Rattle.rules.proofs.Groups.{fine-mid, fine-snoc, fine-entered, interfaces-replaced, ExportersSound, ObjectsSound, InterfacesSound, SetsSound, Grouped}

-- ---- more live identifiers

-- what is among the first is among the second
abbrev Wider : List ℕ → List ℕ → Type 0
Wider ns ms = (k : ℕ) → among ns k ≡ true → among ms k ≡ true

-- with one more number
wider-snoc : (ns : List ℕ) (n : ℕ) → Wider ns (ns ++ (n ∷ []))
wider-snoc ns n k h = some-snoc (eqb k) ns n ∙ rw h

-- the last number is among the numbers
last-among : (ns : List ℕ) (n : ℕ) → among (ns ++ (n ∷ [])) n ≡ true
last-among ns n = some-snoc (eqb n) ns n ∙ rw (eq-eqb n n refl) (or-true (among ns n))

-- objects name exporters
objects-wider : {now : ℕ} {ns ms : List ℕ} {os : List Object} → Wider ns ms → ObjectsSound now ns os → ObjectsSound now ms os
objects-wider {now} {ns} {ms} {os} w s =
    record {
      ids = s.ids;
      named = every-mono (λ (o : Object). among ns o.exporter) (λ o. among ms o.exporter) (λ o. w o.exporter) os s.named;
      by_clock = s.by_clock;
      lately = s.lately;
    }

-- sets name objects
sets-wider : {now next : ℕ} {ns ms : List ℕ} {ss : List PingSet} → Wider ns ms → SetsSound now next ns ss → SetsSound now next ms ss
sets-wider {now} {next} {ns} {ms} {ss} w s =
    record {
      ids = s.ids;
      named =
          every-mono (λ (p : PingSet). every (among ns) p.members) (λ p. every (among ms) p.members)
          (λ p. every-mono (among ns) (among ms) w p.members) ss s.named;
      by_clock = s.by_clock;
      lately = s.lately;
      nonzero = s.nonzero;
      below = s.below;
    }

-- ---- one more entry

-- what was heard now is not overdue
pub not-overdue : (now : ℕ) → overdue now now ≡ false
not-overdue now = lt-leb 360 (now - now) (omega arith)

-- an exporter with a free OXID and a good list
exporters-snoc : (x : Exporter) (xs : List Exporter) → ExportersSound xs
    → (eqb x.oxid 0 || among (map (λ (p : Exporter). p.oxid) xs) x.oxid) ≡ false
    → list_answer x.bindings ≡ 0 → length x.bindings ≤ longest_list → lists_length xs + length x.bindings ≤ store_bytes → ExportersSound (xs ++ (x ∷ []))
exporters-snoc x xs s n a l f =
    record {
      ids = fine-entered eqb 0 (λ (p : Exporter). p.oxid) eqb-decides x xs n s.ids;
      lists =
          every-snoc (λ (p : Exporter). eqb (list_answer p.bindings) 0 && leb (length p.bindings) longest_list) xs x
          ∙ rw (s.lists, eq-eqb (list_answer x.bindings) 0 a) (le-leb (length x.bindings) longest_list l);
      inside = rw (bytes-snoc xs x) (le-leb (lists_length xs + length x.bindings) store_bytes f);
    }

-- an object with a free OID, of a live exporter, heard now
objects-snoc : {now : ℕ} {exporters : List ℕ} (o : Object) (os : List Object) → ObjectsSound now exporters os
    → (eqb o.oid 0 || among (map (λ (p : Object). p.oid) os) o.oid) ≡ false
    → among exporters o.exporter ≡ true → o.heard ≡ now → ObjectsSound now exporters (os ++ (o ∷ []))
objects-snoc {now} {exporters} o os s n x h =
    record {
      ids = fine-entered eqb 0 (λ (p : Object). p.oid) eqb-decides o os n s.ids;
      named = every-snoc (λ (p : Object). among exporters p.exporter) os o ∙ rw (s.named, x);
      by_clock = every-snoc (λ (p : Object). leb p.heard now) os o ∙ rw (s.by_clock, h) (le-leb now now (omega arith));
      lately =
          every-snoc (heard_within now) os o
          ∙ rw (s.lately, h, not-overdue now) (or-true o.noping);
    }

-- an interface of an object of ms, which are ns and perhaps this object
interfaces-snoc : {ns ms : List ℕ} (i : Interface) (is : List Interface) → InterfacesSound ns is → Wider ns ms → among ms i.object ≡ true
    → every (among (map (λ (p : Interface). p.object) is ++ (i.object ∷ []))) ms ≡ true
    → held i ≡ true → InterfacesSound ms (is ++ (i ∷ []))
interfaces-snoc {ns} {ms} i is s w o v n =
    record {
      named =
          every-snoc (λ (p : Interface). among ms p.object) is i
          ∙ and_intro _ _ (every-mono (λ (p : Interface). among ns p.object) (λ p. among ms p.object) (λ p. w p.object) is s.named) o;
      serving = rw (map-append (λ (p : Interface). p.object) is (i ∷ [])) v;
      counted = every-snoc held is i ∙ rw (s.counted, n);
    }

-- every object that has an interface has one among more of them
still-serving : {ns : List ℕ} {is : List Interface} (n : ℕ) → InterfacesSound ns is → every (among (map (λ (p : Interface). p.object) is ++ (n ∷ []))) ns ≡ true
still-serving {ns} {is} n s =
    every-mono (among (map (λ (p : Interface). p.object) is)) (among (map (λ (p : Interface). p.object) is ++ (n ∷ [])))
    (wider-snoc (map (λ (p : Interface). p.object) is) n) ns s.serving

-- an IPID is free
abbrev pub FreeIpid : Entries → Guid → Type 0
FreeIpid e i = (same_guid i nil || some (same_guid i) (ipids e)) ≡ false

-- the IPIDs with one more interface
ids-snoc : (e : Entries) (i : Interface) → Grouped e → FreeIpid e i.ipid
    → proper_guids (ipids (with_interfaces (e.interfaces ++ (i ∷ [])) e)) ≡ true
ids-snoc e i g f =
    rw (map-append (λ (p : Interface). p.ipid) e.interfaces (i ∷ []), ← append_assoc (map (λ (x : Exporter). x.unknown) e.exporters) (interface_ipids e) (i.ipid ∷ []))
    (fine-snoc same_guid nil guid-decides i.ipid (ipids e) f g.ids)

-- ---- the calls

-- an exporter entered
pub exporter-entered : (e : Entries) (x : Exporter) → Grouped e → (eqb x.oxid 0 || among (oxids e) x.oxid) ≡ false → FreeIpid e x.unknown
    → list_answer x.bindings ≡ 0 → length x.bindings ≤ longest_list → lists_length e.exporters + length x.bindings ≤ store_bytes
    → Grouped (with_exporters (e.exporters ++ (x ∷ [])) e)
exporter-entered e x g n f a l b =
    record {
      exporters = exporters-snoc x e.exporters g.exporters n a l b;
      objects = rw (map-append (λ (p : Exporter). p.oxid) e.exporters (x ∷ [])) (objects-wider (wider-snoc (oxids e) x.oxid) g.objects);
      ids =
          rw (map-append (λ (p : Exporter). p.unknown) e.exporters (x ∷ []))
          (fine-mid same_guid nil guid-decides x.unknown (map (λ (p : Exporter). p.unknown) e.exporters) (interface_ipids e) f g.ids);
      interfaces = g.interfaces;
      sets = g.sets;
    }

-- an interface of a live object entered
pub interface-entered : (e : Entries) (i : Interface) → Grouped e → FreeIpid e i.ipid → among (oids e) i.object ≡ true → held i ≡ true
    → Grouped (with_interfaces (e.interfaces ++ (i ∷ [])) e)
interface-entered e i g f o n =
    interfaces-replaced e (e.interfaces ++ (i ∷ [])) g (ids-snoc e i g f)
    (interfaces-snoc i e.interfaces g.interfaces (λ k h. h) o (still-serving i.object g.interfaces) n)

-- an object entered with its first interface
pub object-entered : (e : Entries) (o : Object) (i : Interface) → Grouped e → (eqb o.oid 0 || among (oids e) o.oid) ≡ false → FreeIpid e i.ipid
    → among (oxids e) o.exporter ≡ true → o.heard ≡ e.clock → i.object ≡ o.oid → held i ≡ true
    → Grouped (with_objects (e.objects ++ (o ∷ [])) (with_interfaces (e.interfaces ++ (i ∷ [])) e))
object-entered e o i g d f x h s n =
    record {
      exporters = g.exporters;
      objects = objects-snoc o e.objects g.objects d x h;
      ids = ids-snoc e i g f;
      interfaces =
          rw more
          (interfaces-snoc i e.interfaces g.interfaces (wider-snoc (oids e) o.oid) (rw s (last-among (oids e) o.oid))
          (every-snoc (among (objects_of ++ (i.object ∷ []))) (oids e) o.oid
          ∙ and_intro _ _ (still-serving i.object g.interfaces) (rw s (last-among objects_of o.oid))) n);
      sets = rw more (sets-wider (wider-snoc (oids e) o.oid) g.sets);
    }
  where
    objects_of : List ℕ
    objects_of = map (λ (p : Interface). p.object) e.interfaces

    more : map (λ (p : Object). p.oid) (e.objects ++ (o ∷ [])) ≡ oids e ++ (o.oid ∷ [])
    more = map-append (λ (p : Object). p.oid) e.objects (o ∷ [])

-- references added to an interface
pub counts-added : (e : Entries) (i : Guid) (c p q : ℕ) → Grouped e → Grouped (at_interface i (increased c p q) e)
counts-added e i c p q g =
    interfaces-replaced e _ g
    (rw (map-unread-at meant (increased c p q) (λ r. r.ipid) (λ r. refl) e.interfaces) g.ids)
    (record {
      named = every-changed-at meant (increased c p q) (λ r. among (oids e) r.object) (λ r h. h) e.interfaces g.interfaces.named;
      serving = rw (map-unread-at meant (increased c p q) (λ r. r.object) (λ r. refl) e.interfaces) g.interfaces.serving;
      counted = every-changed-at meant (increased c p q) held (increased-held c p q) e.interfaces g.interfaces.counted;
    })
  where
    meant : Interface → Bool
    meant r = same_guid i r.ipid
