-- The clauses of `sound` in groups, each over the parts of the entries that it reads: a call proves anew only the groups whose parts
-- it changes.
use Prim.Native.Nat.{ℕ}
use mathlib.Core.Path.{◌≡◌, sym, ap, ◌∙◌}
use mathlib.Core.Bool.{Bool, true, false, not, ◌&&◌, ◌||◌}
use mathlib.Core.List.{List, [], ◌∷◌, ◌++◌, map, append-nil}
use lib.ListN.{length}
use lib.Dec.{eqb, ltb, leb}
use Rattle.kinds.proofs.Refusing.{or-false}
use Rattle.bindings.specs.Bindings.{list_answer}
use Rattle.lists.specs.Lists.{every, some, distinct, among}
use Rattle.lists.proofs.Tests.{and_intro, and_left, and_right}
use Rattle.lists.proofs.Lists.{every_map, every-ext, every_append, every-snoc, some-map, map-append}
use Rattle.lists.proofs.Distinct.{Decides, Sublist, distinct-mid}
use Rattle.rules.specs.Entries.{Exporter, Object, Interface, PingSet, Entries, oxids, oids, ipids, lists_length, with_next, with_interfaces, with_sets}
use Rattle.rules.specs.Sound.{longest_list, store_bytes, proper, proper_guids, held, sound, heard_within, pinged_within}
use Rattle.rules.proofs.SoundLaws.{Sound, sound-fields, sound-groups, none, ◌and◌}

-- ---- identifiers of a kind: nonzero and distinct

module _ {A : Type 0} (same : A → A → Bool) (zero : A) where
  -- `proper` and `proper_guids`
  abbrev pub fine : List A → Bool
  fine xs = every (λ (x : A). not (same x zero)) xs && distinct same xs

  -- they are distinct
  pub fine-distinct : (xs : List A) → fine xs ≡ true → distinct same xs ≡ true
  fine-distinct xs h = and_right (every (λ (x : A). not (same x zero)) xs) (distinct same xs) h

  -- a part of them
  pub fine-sublist : {xs ys : List A} → Sublist ys xs → fine xs ≡ true → fine ys ≡ true
  fine-sublist {xs} {ys} s h =
      let nonzero : A → Bool = λ x. not (same x zero) in
      and_intro (every nonzero ys) (distinct same ys)
      (s.passes nonzero (and_left (every nonzero xs) (distinct same xs) h))
      (s.differs same (fine-distinct xs h))

  -- one more, between two lists of them
  pub fine-mid : Decides same → (x : A) (xs ys : List A) → (same x zero || some (same x) (xs ++ ys)) ≡ false → fine (xs ++ ys) ≡ true → fine ((xs ++ (x ∷ [])) ++ ys) ≡ true
  fine-mid dec x xs ys n h =
      let nonzero : A → Bool = λ y. not (same y zero) in
      let f = or-false (same x zero) (some (same x) (xs ++ ys)) n in
      let e = sym (every_append nonzero xs ys) ∙ and_left (every nonzero (xs ++ ys)) (distinct same (xs ++ ys)) h in
      and_intro (every nonzero ((xs ++ (x ∷ [])) ++ ys)) (distinct same ((xs ++ (x ∷ [])) ++ ys))
      (every_append nonzero (xs ++ (x ∷ [])) ys
      ∙ and_intro (every nonzero (xs ++ (x ∷ []))) (every nonzero ys)
      (every-snoc nonzero xs x ∙ and_intro (every nonzero xs) (nonzero x) (and_left (every nonzero xs) (every nonzero ys) e) (ap not f.0))
      (and_right (every nonzero xs) (every nonzero ys) e))
      (distinct-mid same dec x xs ys (fine-distinct (xs ++ ys) h) f.1)

  -- one more at the end
  pub fine-snoc : Decides same → (x : A) (xs : List A) → (same x zero || some (same x) xs) ≡ false → fine xs ≡ true → fine (xs ++ (x ∷ [])) ≡ true
  fine-snoc dec x xs n h =
      cc (append-nil (xs ++ (x ∷ [])), fine-mid dec x xs [] (ap (λ (l : List A). same x zero || some (same x) l) (append-nil xs) ∙ n) (ap fine (append-nil xs) ∙ h))

  -- one more entry whose identifier, by f, is such a one
  pub fine-entered : {B : Type 0} (f : B → A) → Decides same → (x : B) (xs : List B) → (same (f x) zero || some (same (f x)) (map f xs)) ≡ false → fine (map f xs) ≡ true
      → fine (map f (xs ++ (x ∷ []))) ≡ true
  fine-entered f dec x xs n h = ap fine (map-append f xs (x ∷ [])) ∙ fine-snoc dec (f x) (map f xs) n h

-- ---- the groups

pub record ExportersSound (xs : List Exporter) : Type 0 where
  pub ids : proper (map (λ (x : Exporter). x.oxid) xs) ≡ true
  pub lists : every (λ (x : Exporter). eqb (list_answer x.bindings) 0 && leb (length x.bindings) longest_list) xs ≡ true
  pub inside : leb (lists_length xs) store_bytes ≡ true

-- exporters are the live OXIDs
pub record ObjectsSound (now : ℕ) (exporters : List ℕ) (os : List Object) : Type 0 where
  pub ids : proper (map (λ (o : Object). o.oid) os) ≡ true
  pub named : every (λ (o : Object). among exporters o.exporter) os ≡ true
  pub by_clock : every (λ (o : Object). leb o.heard now) os ≡ true
  pub lately : every (heard_within now) os ≡ true

-- objects are the live OIDs
pub record InterfacesSound (objects : List ℕ) (is : List Interface) : Type 0 where
  pub named : every (λ (i : Interface). among objects i.object) is ≡ true
  pub serving : every (among (map (λ (i : Interface). i.object) is)) objects ≡ true
  pub counted : every held is ≡ true

pub record SetsSound (now next : ℕ) (objects : List ℕ) (ss : List PingSet) : Type 0 where
  pub ids : proper (map (λ (s : PingSet). s.number) ss) ≡ true
  pub named : every (λ (s : PingSet). every (among objects) s.members) ss ≡ true
  pub by_clock : every (λ (s : PingSet). leb s.pinged now) ss ≡ true
  pub lately : every (pinged_within now) ss ≡ true
  pub nonzero : not (eqb next 0) ≡ true
  pub below : every (λ (n : ℕ). ltb n next) (map (λ (s : PingSet). s.number) ss) ≡ true

pub record Grouped (e : Entries) : Type 0 where
  pub exporters : ExportersSound e.exporters
  pub objects : ObjectsSound e.clock (oxids e) e.objects
  pub ids : proper_guids (ipids e) ≡ true
  pub interfaces : InterfacesSound (oids e) e.interfaces
  pub sets : SetsSound e.clock e.next (oids e) e.sets

-- entries with other interfaces
pub interfaces-replaced : (e : Entries) (is : List Interface) → Grouped e → proper_guids (ipids (with_interfaces is e)) ≡ true → InterfacesSound (oids e) is → Grouped (with_interfaces is e)
interfaces-replaced e is g u s = record { exporters = g.exporters; objects = g.objects; ids = u; interfaces = s; sets = g.sets }

-- entries with other sets and another next set number
pub sets-replaced : (e : Entries) (n : ℕ) (ss : List PingSet) → Grouped e → SetsSound e.clock n (oids e) ss → Grouped (with_next n (with_sets ss e))
sets-replaced e n ss g s = record { exporters = g.exporters; objects = g.objects; ids = g.ids; interfaces = g.interfaces; sets = s }

-- each object has an interface: each OID is the object of one
pub serving-objects : (os : List Object) (is : List Interface) → every (among (map (λ (i : Interface). i.object) is)) (map (λ (o : Object). o.oid) os)
    ≡ every (λ (o : Object). some (λ (i : Interface). eqb o.oid i.object) is) os
serving-objects os is =
    every_map _ _ os ∙ every-ext _ _ (λ o. some-map (eqb o.oid) _ is) os

-- the fields by groups
fields-grouped : (e : Entries) → Sound e → Grouped e
fields-grouped e s =
    record {
      exporters = record { ids = s.exporters_proper; lists = s.lists_kept; inside = s.lists_inside };
      objects = record { ids = s.objects_proper; named = s.object_exporters_live; by_clock = s.heard_before; lately = s.heard_recently };
      ids = s.ipids_proper;
      interfaces = record { named = s.interface_objects_live; serving = serving-objects e.objects e.interfaces ∙ s.objects_have_interfaces; counted = s.interfaces_held };
      sets = record { ids = s.sets_proper; named = s.set_members_live; by_clock = s.pinged_before; lately = s.pinged_recently; nonzero = s.next_nonzero; below = s.sets_below_next };
    }

-- sound entries by groups
pub grouped : (e : Entries) → sound e ≡ true → Grouped e
grouped e h = fields-grouped e (sound-fields e h)

-- and back
pub sound-grouped : (e : Entries) → Grouped e → sound e ≡ true
sound-grouped e g =
    let xs = g.exporters in
    let os = g.objects in
    let is = g.interfaces in
    let ss = g.sets in
    cc (
      sound-groups e,
      ((xs.lists and xs.inside and none).together
          and (xs.ids and os.named and os.ids and is.named and (sym (serving-objects e.objects e.interfaces) ∙ is.serving) and none).together
          and (os.by_clock and os.lately and none).together
          and (g.ids and is.counted and none).together
          and (ss.ids and ss.by_clock and ss.lately and ss.below and ss.nonzero and ss.named and none).together
          and none).together,
    )
