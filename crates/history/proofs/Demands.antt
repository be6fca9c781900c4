-- The sentences of demand 3, of sound entries and of the live entries of a history.
use Prim.Native.Nat.{ℕ, ◌+◌, ◌≤◌}
use mathlib.Core.Path.{◌≡◌, refl, sym, ap, ◌∙◌}
use mathlib.Core.Bool.{Bool, true, not, ◌&&◌, ◌||◌, or-true}
use mathlib.Core.List.Memᴰ
use mathlib.Core.List.{map}
use mathlib.Core.Logic.{⊎_elim}
use native.Mathlib.Omega.{arith}
use borrow.Author.Tests.{eq-eqb, ne_eqb, eqb-true, eqb-false, le-leb, leb-true, lt-ltb, not-true}
use lib.ListN.{length, get_or}
use lib.Dec.{eqb, ltb, leb}
use Rattle.kinds.proofs.Refusing.{same_test}
use Rattle.lists.specs.Lists.{keep, some, every, among, tabulate}
use Rattle.lists.specs.Guids.{nil, same_guid}
use Rattle.lists.proofs.Tests.{true-or-false, same_or_not, and_intro, and_left, and_right, or_cases}
use Rattle.lists.proofs.Lists.{every-mono, every-at-or, some_mono, every-tabulate}
use Rattle.lists.proofs.Distinct.{eqb-decides}
use Rattle.lists.proofs.Guids.{guid-decides}
use Rattle.rules.specs.Entries.{Object, Interface, Entries, count_of, oids, ipids}
use Rattle.rules.specs.Sound.{sound, held}
use Rattle.rules.specs.Rules.{is_live_object, no_interface, interface_of}
use Rattle.rules.proofs.SoundLaws.{sound-fields}
use Rattle.rules.proofs.Groups.{fine-distinct, grouped}
use Rattle.rules.proofs.ByRow.{oxids-distinct, oids-distinct, sets-distinct}
use Rattle.history.specs.History.{ObjectLife, InterfaceLife, History, remaining, object_gone, live_objects, live_interface, object_entry, interface_entry, live, no_account, account_of}
use Rattle.history.specs.Runs.{distinct_identifiers, one_object, some_reference, objects_exported, members_live, counts_granted, is_latest, gone_exactly}
use Rattle.lists.proofs.Elements.{In, map-in, in-every, every_in, in_some, some_in, in-keep, first-sole, one_in, sole-map, sole-key, keep_one}
use Rattle.history.proofs.Lives.{covered, Bounded, Kept, serial_of_object}
use Rattle.history.proofs.Accounts.{remaining-at}
use Rattle.history.proofs.Identities.{live-object, one-ipid}
use Rattle.history.proofs.Room.{agreed}

-- ---- of sound entries

module _ (e : Entries) (s : sound e ≡ true) where
  -- live identifiers are distinct within their kind
  pub identifiers-distinct : distinct_identifiers e ≡ true
  unfolding distinct_identifiers
  identifiers-distinct =
      λ u. oxids-distinct e s u && oids-distinct e s u && fine-distinct same_guid nil (ipids e) (grouped e s).ids u && sets-distinct e s u

  -- each interface has one live object
  pub one-object : one_object e ≡ true
  unfolding one_object
  one-object =
      every-mono (λ (i : Interface). among (oids e) i.object) (λ i. eqb (length (keep (λ (o : Object). eqb i.object o.oid) e.objects)) 1)
      (λ i t. eq-eqb _ 1 (keep_one eqb eqb-decides (λ (o : Object). o.oid) i.object e.objects (oids-distinct e s) t))
      e.interfaces (sound-fields e s).interface_objects_live

  -- and at least one reference
  pub some-reference : some_reference e ≡ true
  unfolding some_reference
  some-reference =
      every-mono held (λ (i : Interface). some (ltb 0) i.counts)
      (λ i t. some_mono (λ (n : ℕ). not (eqb n 0)) (ltb 0) (λ n d. let w = eqb-false n 0 (not-true (eqb n 0) d) in lt-ltb 0 n (omega arith)) i.counts t)
      e.interfaces (sound-fields e s).interfaces_held

  -- each object has a live exporter
  pub objects-exported : objects_exported e ≡ true
  unfolding objects_exported
  objects-exported = (sound-fields e s).object_exporters_live

  -- each set member is live
  pub members-live : members_live e ≡ true
  unfolding members_live
  members-live = (sound-fields e s).set_members_live

-- ---- of a history

module _ (h : History) (k : Kept h) where
  -- a live interface's entry is its own
  own-entry : (l : InterfaceLife) → In l h.interfaces → live_interface h l ≡ true → interface_of (live h) l.ipid ≡ interface_entry h l
  unfolding live
  own-entry l m t =
      first-sole (λ (p : Interface). same_guid l.ipid p.ipid) no_interface
      (sole-map (λ (p : Interface). same_guid l.ipid p.ipid) (interface_entry h)
      (sole-key same_guid guid-decides (λ (p : InterfaceLife). p.ipid) l.ipid (one-ipid h k) (in-keep (live_interface h) m t) refl))

  -- each count, with what releases and drops took, is what was granted
  pub counts-granted : counts_granted h (live h) ≡ true
  unfolding counts_granted
  counts-granted =
      in-every _ h.interfaces
      (λ l m.
      ⊎_elim
      (λ t.
      ap (λ (i : Interface). not (live_interface h l) || every (λ (n : ℕ). eqb (count_of n i + (account_of n l).taken) (account_of n l).granted) (tabulate 9 (λ n. n))) (own-entry l m t)
      ∙ ap (λ (c : Bool). not (live_interface h l) || c) (every-tabulate _ 9 (λ n. n) (λ n b. whole l n (k.bounded l m)))
      ∙ or-true (not (live_interface h l)))
      (λ t. or-intro (not (live_interface h l)) _ (ap not t))
      (true-or-false (live_interface h l)))
    where
      or-intro : (a b : Bool) → a ≡ true → (a || b) ≡ true
      or-intro a b t = rw t

      whole : (l : InterfaceLife) (n : ℕ) → Bounded l → eqb (get_or (map remaining l.accounts) n 0 + (account_of n l).taken) (account_of n l).granted ≡ true
      whole l n b =
          let c = leb-true (account_of n l).taken (account_of n l).granted (every-at-or covered l.accounts no_account n refl b.each) in
          eq-eqb _ (account_of n l).granted (let q = remaining-at n l.accounts in omega arith)

  -- a life is there exactly if it is not gone
  there : (o : ObjectLife) → In o h.objects → (is_live_object (live h) o.oid && is_latest h o) ≡ not (object_gone h o)
  unfolding live
  there o m =
      same_test (is_live_object (live h) o.oid && is_latest h o) (not (object_gone h o))
      (λ t.
      let r = some_in (eqb o.oid) (oids (live h)) (and_left (is_live_object (live h) o.oid) (is_latest h o) t) in
      let a = map-in (λ (p : Object). p.oid) (live h).objects r.1 in
      let b = map-in (object_entry h) (live_objects h) a.1 in
      let p = b.0 in
      let same : o.oid ≡ p.oid = eqb-true o.oid r.0 r.2 ∙ a.2 ∙ ap (λ (q : Object). q.oid) b.2 in
      let w = live-object h b.1 in
      let above : p.serial ≤ o.serial =
      leb-true p.serial o.serial
      (⊎_elim
      (λ n. absurd (eqb-false o.oid p.oid (not-true (eqb o.oid p.oid) n) same))
      (λ n. n)
      (or_cases (not (eqb o.oid p.oid)) (leb p.serial o.serial)
      (every_in (λ (q : ObjectLife). not (eqb o.oid q.oid) || leb q.serial o.serial) w.0 (and_right (is_live_object (live h) o.oid) (is_latest h o) t)))) in
      let below : o.serial ≤ p.serial = k.latest p o b.1 m (sym same) in
      let e : o.serial ≡ p.serial = omega arith in
      ap not (ap (object_gone h) (one_in eqb eqb-decides serial_of_object h.objects k.objects.differ m w.0 e) ∙ w.1))
      (λ t.
      let w = in-keep (λ p. not (object_gone h p)) m t in
      and_intro (is_live_object (live h) o.oid) (is_latest h o)
      (in_some (eqb o.oid) (Memᴰ.map (λ (p : Object). p.oid) (Memᴰ.map (object_entry h) w)) (eq-eqb o.oid o.oid refl))
      (in-every _ h.objects
      (λ p n.
      ⊎_elim
      (λ q. ap (λ (c : Bool). not (eqb o.oid p.oid) || c) (le-leb p.serial o.serial (k.latest o p w n q)) ∙ or-true (not (eqb o.oid p.oid)))
      (λ q. ap (λ (c : Bool). not c || leb p.serial o.serial) (ne_eqb o.oid p.oid q))
      (same_or_not o.oid p.oid))))

  -- an object is gone exactly for one of the three reasons
  pub gone-exactly : gone_exactly h (live h) ≡ true
  unfolding gone_exactly
  gone-exactly = in-every _ h.objects (λ o m. agreed _ _ (there o m))
