-- Sorted entries fit, are sound and have their members in order where the entries do; sorting again changes nothing.
use Prim.Native.Nat.{ℕ, ◌≤◌}
use mathlib.Core.Path.{◌≡◌, refl, sym, ap, subst, ◌∙◌}
use mathlib.Core.Bool.{Bool, true, not, ◌&&◌, and-true}
use mathlib.Core.List.Memᴰ
use mathlib.Core.List.{List, [], ◌∷◌, ◌++◌, map, map-id}
use mathlib.Core.Logic.{⊎_elim}
use native.Mathlib.Omega.{arith}
use borrow.Author.Tests.{eq-eqb, leb-true}
use lib.ListN.{length, length-map}
use lib.Dec.{eqb, ltb, leb}
use Rattle.kinds.specs.declared.Guid.{Guid}
use Rattle.lists.specs.Lists.{keep, some, every, nonzero, distinct, apart, among, holding}
use Rattle.lists.specs.Guids.{nil, same_guid}
use Rattle.lists.specs.Order.{rising}
use Rattle.lists.proofs.Tests.{and_intro, and_left, and_right, holding-head, holding-tail}
use Rattle.lists.proofs.Lists.{length-keep, map-unread}
use Rattle.lists.proofs.Distinct.{eqb-decides, some-same-keep, distinct_append}
use Rattle.lists.proofs.Guids.{guid-decides}
use Rattle.lists.proofs.Order.{rising-in, every-rising, some-rising, length-rising}
use Rattle.lists.proofs.Rising.{sum-rising, keys-some, keys_in, keys-every, keys-distinct, rising-once, ltb-asym, bytes-asym}
use Rattle.lists.proofs.Elements.{In, every_in, in-every, in_some, keep-in, map-in, map-ext-in, keep-ext-in}
use Rattle.rules.specs.Entries.{Exporter, Object, Interface, PingSet, Entries, oxids, oids, set_numbers, ipids, lists_length, Ordered}
use Rattle.rules.specs.Sound.{store_bytes, proper, sound, held, has_interface, pinged_within}
use Rattle.rules.specs.Snapshot.{exporter_before, object_before, interface_before, set_before, members_in_order, sorted, placed}
use Rattle.rules.specs.Swapping.{SetFits, Fits}
use Rattle.rules.proofs.SoundLaws.{Sound, sound-fields, sound-made}

-- the OIDs of the sorted objects, the sets with their members in the order of these
abbrev pub sorted_oids : Entries → List ℕ
sorted_oids e = map (λ (o : Object). o.oid) (rising object_before e.objects)

abbrev pub ordered_sets : Entries → List PingSet
ordered_sets e = map (members_in_order (sorted_oids e)) e.sets

-- a sorted set is one of the sets with its members in order
pub set-from : (e : Entries) {p : PingSet} → In p (rising set_before (ordered_sets e)) → (q : PingSet) × In q e.sets × (p ≡ members_in_order (sorted_oids e) q)
set-from e m = map-in (members_in_order (sorted_oids e)) e.sets (rising-in set_before (ordered_sets e) m)

-- ---- they fit

pub sorted-placed : (e : Entries) → placed e ≡ true → placed (sorted e) ≡ true
unfolding sorted placed
sorted-placed e p =
    let l : length (rising set_before (ordered_sets e)) ≡ length e.sets = length-rising set_before (ordered_sets e) ∙ length-map e.sets (members_in_order (sorted_oids e)) in
    (λ u.
    holding
    (leb (length-rising exporter_before e.exporters u) 16
    ∷ leb (length-rising object_before e.objects u) 128
    ∷ leb (length-rising interface_before e.interfaces u) 256
    ∷ leb (l u) 32
    ∷ []))
    ∙ p

-- the objects are no more than their places
objects-few : (e : Entries) → placed e ≡ true → length e.objects ≤ 128
unfolding placed
objects-few e p = leb-true (length e.objects) 128 (holding-head _ _ (holding-tail _ _ p))

ordered-fits : (e : Entries) → Fits e → (q : PingSet) → SetFits q → SetFits (members_in_order (sorted_oids e) q)
ordered-fits e f q s =
    record {
      number = s.number;
      sequence = s.sequence;
      pinged = s.pinged;
      size =
          let a = length-keep (among q.members) (sorted_oids e) in
          let b = length-map (rising object_before e.objects) (λ (o : Object). o.oid) in
          let c = length-rising object_before e.objects in
          let d = objects-few e f.places in
          omega arith;
      members = λ k m.
          let a = map-in (λ (o : Object). o.oid) e.objects (keys_in object_before (λ (o : Object). o.oid) e.objects (keep-in (among q.members) (sorted_oids e) m).0) in
          rw a.2 (f.objects a.0 a.1).oid;
    }

pub sorted-fits : (e : Entries) → Fits e → Fits (sorted e)
unfolding sorted
sorted-fits e f =
    record {
      clock = f.clock;
      next = f.next;
      exporters = λ x m. f.exporters x (rising-in exporter_before e.exporters m);
      objects = λ o m. f.objects o (rising-in object_before e.objects m);
      interfaces = λ i m. f.interfaces i (rising-in interface_before e.interfaces m);
      sets = λ p m. let r = set-from e m in subst SetFits (sym r.2) (ordered-fits e f r.0 (f.sets r.0 r.1));
      places = sorted-placed e f.places;
    }

-- ---- members in the order of the objects

-- keeping twice keeps once
keep-again : (ms ids : List ℕ) → keep (among (keep (among ms) ids)) ids ≡ keep (among ms) ids
keep-again ms ids =
    keep-ext-in (among (keep (among ms) ids)) (among ms) ids
    (λ o m.
    some-same-keep eqb eqb-decides (among ms) o ids
    ∙ ap (λ (b : Bool). among ms o && b) (in_some (eqb o) m (eq-eqb o o refl))
    ∙ and-true (among ms o))

pub sorted-ordered : (e : Entries) → Ordered (sorted e)
unfolding sorted
sorted-ordered e =
    map-ext-in (λ (p : PingSet). keep (among p.members) (sorted_oids e)) (λ p. p.members) (rising set_before (ordered_sets e))
    (λ p m.
    let r = set-from e m in
    let q : p.members ≡ keep (among r.0.members) (sorted_oids e) = ap (λ (z : PingSet). z.members) r.2 in
    ap (λ (ms : List ℕ). keep (among ms) (sorted_oids e)) q ∙ keep-again r.0.members (sorted_oids e) ∙ sym q)

-- ---- they are sound

module _ {A : Type 0} (before : A → A → Bool) (f : A → ℕ) where
  proper-rising : (xs : List A) → proper (map f xs) ≡ true → proper (map f (rising before xs)) ≡ true
  proper-rising xs t =
      and_intro _ (distinct eqb (map f (rising before xs)))
      (keys-every before f (λ (n : ℕ). not (eqb n 0)) xs (and_left _ (distinct eqb (map f xs)) t))
      (keys-distinct before f eqb eqb-decides xs (and_right (nonzero (map f xs)) _ t))

-- the bytes of the lists
pub lists-rising : (xs : List Exporter) → lists_length (rising exporter_before xs) ≡ lists_length xs
unfolding lists_length
lists-rising xs = sum-rising exporter_before lists_length (λ x. length x.bindings) (λ y ys. refl) xs

module _ (e : Entries) (s : sound e ≡ true) where
  abbrev g : Sound e
  g = sound-fields e s

  -- the OIDs and OXIDs are the same
  same-oids : (k : ℕ) → among (oids (sorted e)) k ≡ among (oids e) k
  unfolding sorted
  same-oids k = keys-some object_before (λ (o : Object). o.oid) (eqb k) e.objects

  same-oxids : (k : ℕ) → among (oxids (sorted e)) k ≡ among (oxids e) k
  unfolding sorted
  same-oxids k = keys-some exporter_before (λ (x : Exporter). x.oxid) (eqb k) e.exporters

  -- what every set passes whatever its members
  sets-every : (p : PingSet → Bool) → ((q : PingSet) → p (members_in_order (sorted_oids e) q) ≡ p q) → every p e.sets ≡ true → every p (rising set_before (ordered_sets e)) ≡ true
  sets-every p h t = in-every p (rising set_before (ordered_sets e)) (λ q m. let r = set-from e m in ap p r.2 ∙ h r.0 ∙ every_in p r.1 t)

  pub set-numbers : map (λ (p : PingSet). p.number) (ordered_sets e) ≡ set_numbers e
  set-numbers = map-unread (λ (p : PingSet). p.number) (members_in_order (sorted_oids e)) (λ p. refl) e.sets

  ipids-sorted : (every (λ (i : Guid). not (same_guid i nil)) (ipids (sorted e)) && distinct same_guid (ipids (sorted e))) ≡ true
  unfolding sorted
  ipids-sorted =
      and_intro _ (distinct same_guid (ipids (sorted e)))
      (in-every _ (ipids (sorted e)) (λ i m. every_in (λ (j : Guid). not (same_guid j nil)) (back i m) (and_left _ (distinct same_guid (ipids e)) g.ipids_proper)))
      (distinct_append same_guid us is
      ∙ (λ u. keys-distinct exporter_before unknown same_guid guid-decides e.exporters (and_left (distinct same_guid us₀) _ (and_left _ _ all)) u
      && keys-distinct interface_before ipid same_guid guid-decides e.interfaces (and_right (distinct same_guid us₀) _ (and_left _ _ all)) u
      && apart-sorted u))
    where
      unknown : Exporter → Guid
      unknown x = x.unknown

      ipid : Interface → Guid
      ipid i = i.ipid

      us : List Guid
      us = map unknown (rising exporter_before e.exporters)

      is : List Guid
      is = map ipid (rising interface_before e.interfaces)

      us₀ : List Guid
      us₀ = map unknown e.exporters

      is₀ : List Guid
      is₀ = map ipid e.interfaces

      all : (distinct same_guid us₀ && distinct same_guid is₀ && apart same_guid us₀ is₀) ≡ true
      all = sym (distinct_append same_guid us₀ is₀) ∙ and_right (every (λ (j : Guid). not (same_guid j nil)) (ipids e)) _ g.ipids_proper

      apart-sorted : apart same_guid us is ≡ true
      apart-sorted =
          keys-every exporter_before unknown (λ x. not (some (same_guid x) is)) e.exporters
          (in-every (λ x. not (some (same_guid x) is)) us₀
          (λ x m.
          ap not (keys-some interface_before ipid (same_guid x) e.interfaces)
          ∙ every_in (λ y. not (some (same_guid y) is₀)) m (and_right (distinct same_guid us₀ && distinct same_guid is₀) (apart same_guid us₀ is₀) all)))

      back : (i : Guid) → In i (us ++ is) → In i (us₀ ++ is₀)
      back i m =
          ⊎_elim
          (λ n. Memᴰ.append_left is₀ (keys_in exporter_before unknown e.exporters n))
          (λ n. Memᴰ.append_right us₀ (keys_in interface_before ipid e.interfaces n))
          (Memᴰ.append_cases us m)

  pub sorted-sound : sound (sorted e) ≡ true
  unfolding sorted
  sorted-sound =
      sound-made (sorted e)
      (record {
        exporters_proper = proper-rising exporter_before (λ x. x.oxid) e.exporters g.exporters_proper;
        objects_proper = proper-rising object_before (λ o. o.oid) e.objects g.objects_proper;
        ipids_proper = ipids-sorted;
        sets_proper = proper-rising set_before (λ p. p.number) (ordered_sets e) (ap proper set-numbers ∙ g.sets_proper);
        interface_objects_live =
            every-rising interface_before _ e.interfaces
            (in-every _ e.interfaces (λ i m. same-oids i.object ∙ every_in (λ (j : Interface). among (oids e) j.object) m g.interface_objects_live));
        object_exporters_live =
            every-rising object_before _ e.objects
            (in-every _ e.objects (λ o m. same-oxids o.exporter ∙ every_in (λ (p : Object). among (oxids e) p.exporter) m g.object_exporters_live));
        objects_have_interfaces =
            every-rising object_before _ e.objects
            (in-every _ e.objects (λ o m. some-rising interface_before (λ (i : Interface). eqb o.oid i.object) e.interfaces ∙ every_in (has_interface e) m g.objects_have_interfaces));
        interfaces_held = every-rising interface_before held e.interfaces g.interfaces_held;
        set_members_live =
            in-every _ (rising set_before (ordered_sets e))
            (λ p m.
            let r = set-from e m in
            in-every (among (oids (sorted e))) p.members
            (λ k n.
            let l = subst (λ (ms : List ℕ). In k ms) (ap (λ (q : PingSet). q.members) r.2) n in
            in_some (eqb k) (keep-in (among r.0.members) (sorted_oids e) l).0 (eq-eqb k k refl)));
        heard_before = every-rising object_before _ e.objects g.heard_before;
        pinged_before = sets-every (λ p. leb p.pinged e.clock) (λ q. refl) g.pinged_before;
        heard_recently = every-rising object_before _ e.objects g.heard_recently;
        pinged_recently = sets-every (pinged_within e.clock) (λ q. refl) g.pinged_recently;
        next_nonzero = g.next_nonzero;
        sets_below_next =
            keys-every set_before (λ (p : PingSet). p.number) (λ n. ltb n e.next) (ordered_sets e)
            (ap (every (λ (n : ℕ). ltb n e.next)) set-numbers ∙ g.sets_below_next);
        lists_kept = every-rising exporter_before _ e.exporters g.lists_kept;
        lists_inside = ap (λ (n : ℕ). leb n store_bytes) (lists-rising e.exporters) ∙ g.lists_inside;
      })

-- ---- sorting again changes nothing

pub sorted-once : (e : Entries) → sorted (sorted e) ≡ sorted e
unfolding sorted
sorted-once e u =
    record {
      clock = e.clock;
      next = e.next;
      exporters = rising-once exporter_before (λ x y. ltb-asym x.oxid y.oxid) e.exporters u;
      objects = again u;
      interfaces = rising-once interface_before (λ x y. bytes-asym _ _) e.interfaces u;
      sets =
          (ap (rising set_before)
          (ap (λ (os : List Object). map (members_in_order (map (λ (o : Object). o.oid) os)) (rising set_before (ordered_sets e))) again
          ∙ map-ext-in (members_in_order (sorted_oids e)) (λ p. p) (rising set_before (ordered_sets e))
          (λ p m.
          let r = set-from e m in
          ap (members_in_order (sorted_oids e)) r.2
          ∙ ap (λ (ms : List ℕ). record { number = r.0.number; sequence = r.0.sequence; pinged = r.0.pinged; members = ms }) (keep-again r.0.members (sorted_oids e))
          ∙ sym r.2)
          ∙ map-id (rising set_before (ordered_sets e)))
          ∙ rising-once set_before (λ x y. ltb-asym x.number y.number) (ordered_sets e)) u;
    }
  where
    again : rising object_before (rising object_before e.objects) ≡ rising object_before e.objects
    again = rising-once object_before (λ x y. ltb-asym x.oid y.oid) e.objects
