-- The pings: a set's members are heard as the set's entry says, and a complex ping changes members by serial as it does by OID.
use Prim.Native.Nat.{ℕ, ◌+◌, ◌<◌}
use mathlib.Core.Path.{◌≡◌, refl, sym, ap, ◌∙◌, subst}
use mathlib.Core.Bool.{Bool, true, false, cond, not, ◌&&◌, ◌||◌, and-false, and_comm, or-true}
use mathlib.Core.List.Memᴰ
use mathlib.Core.List.{List, [], ◌∷◌, ◌++◌, map}
use mathlib.Core.Logic.{⊎_elim}
use native.Mathlib.Omega.{arith}
use borrow.Author.Tests.{eq-eqb, not-true, not-false}
use lib.ListN.{length}
use lib.Dec.{eqb}
use Rattle.kinds.proofs.Refusing.{by-test, passed}
use Rattle.lists.specs.Lists.{keep, some, among, distinct}
use Rattle.lists.proofs.Tests.{true-or-false, and_right, or_left, or_right}
use Rattle.lists.proofs.Lists.{some-map, some-snoc, some-append, keep-map, keep-none, keep-ext, keep_snoc, map-map, map-ext, map-append, map-unread}
use Rattle.lists.proofs.Distinct.{eqb-decides, some-same-keep}
use Rattle.rules.specs.Entries.{Object, PingSet, Entries, set_numbers, with_next, with_objects, with_sets, heard_at, pinged_at, with_sequence, with_members}
use Rattle.rules.specs.Calls.{editing, simple_ping, complex_ping}
use Rattle.rules.specs.Sound.{sound}
use Rattle.rules.specs.Rules.{number, next, refusals, is_live_set, no_set, set_of, too_many, at_set, ping, new_members, make_set}
use Rattle.rules.proofs.Groups.{grouped, sound-grouped}
use Rattle.rules.proofs.PingingKeeps.{set-made}
use Rattle.history.specs.History.{remaining, ObjectLife, SetLife, History, at_zero, interfaces_at_zero, exporter_removed, unheard, object_gone, live_exporters}
use Rattle.history.specs.History.{live_objects, live_interface, live_set, no_object_life, exporter_entry, object_entry, interface_entry, set_entry, live, with_object_lives}
use Rattle.history.specs.History.{with_set_lives, heard_life, pinged_life, changed, at_live_set, object_serials, is_member, ping_lives, start_set, lived}
use Rattle.lists.proofs.Elements.{In, map-in, snoc-in, in-none, keep-in, in-keep, keep-ext-in, changed-kept, first-unread, Sole, first-sole, some-sole, sole-keep, sole-map}
use Rattle.history.proofs.Lives.{Kept, kept_from, serial_of_object, still}
use Rattle.history.proofs.Identities.{live-object, found-set, one-oid, among-oids, among-serials}
use Rattle.history.proofs.Steps.{interfaces_over, sets_over, now-heard, chosen, Step, stepped}

-- ---- the live set s changed by f, as its entry is by g

pub record SetChange (h : History) (f : SetLife → SetLife) (g : PingSet → PingSet) : Type 0 where
  pub number : (p : SetLife) → (f p).number ≡ p.number
  pub lasting : (p : SetLife) → live_set h p ≡ true → live_set h (f p) ≡ true
  pub entry : (p : SetLife) → set_entry h (f p) ≡ g (set_entry h p)

module _ (h : History) (s : ℕ) (f : SetLife → SetLife) (g : PingSet → PingSet) (c : SetChange h f g) where
  abbrev set_change : SetLife → SetLife
  set_change p = cond (eqb s p.number && live_set h p) (f p) p

  -- it stays live
  change-live : (p : SetLife) → live_set h (set_change p) ≡ live_set h p
  change-live p =
      ⊎_elim
      (λ t. let l = and_right (eqb s p.number) (live_set h p) t in ap (λ (b : Bool). live_set h (cond b (f p) p)) t ∙ c.lasting p l ∙ sym l)
      (λ t. ap (λ (b : Bool). live_set h (cond b (f p) p)) t)
      (true-or-false (eqb s p.number && live_set h p))

  -- it keeps its number
  change-number : (p : SetLife) → (set_change p).number ≡ p.number
  change-number p = by-test (λ (q : SetLife). q.number ≡ p.number) (eqb s p.number && live_set h p) (f p) p (λ t. c.number p) (λ t. refl)

  -- the live entries with the set changed
  pub set-entries : live (at_live_set s f h) ≡ at_set s g (live h)
  unfolding live
  set-entries =
      ap (λ (ss : List PingSet). with_sets ss (live h))
      (changed-kept set_change (live_set h) (live_set h) (set_entry h) (set_entry h) (λ q. cond (eqb s q.number) (g q) q) h.sets
      (λ p m. change-live p)
      (λ p m t. chosen (set_entry h) (eqb s p.number) (live_set h p) (f p) p (g (set_entry h p)) t (c.entry p)))

  -- a live set is the only one with its number afterwards too
  pub change-sole : (k : ℕ) {p : SetLife} → Sole (λ (q : SetLife). eqb k q.number) (keep (live_set h) h.sets) p
      → Sole (λ (q : SetLife). eqb k q.number) (keep (live_set h) (map set_change h.sets)) (set_change p)
  change-sole k {p} w =
      rw (keep-map (live_set h) set_change h.sets ∙ ap (map set_change) (keep-ext (λ q. live_set h (set_change q)) (live_set h) change-live h.sets))
      (sole-map (λ (q : SetLife). eqb k q.number) set_change
      (subst (λ (t : SetLife → Bool). Sole t (keep (live_set h) h.sets) p) (λ u q. eqb k (sym (change-number q) u)) w))

-- the time of a ping
pub pinged-change : (h : History) → SetChange h (pinged_life h.clock) (pinged_at h.clock)
pinged-change h = record { number = λ p. refl; lasting = λ p t. ap not (now-heard h.clock); entry = λ p. refl }

-- ---- the members heard

module _ (h : History) (u : distinct eqb (map (λ (p : ObjectLife). p.oid) (live_objects h)) ≡ true)
    (s : ℕ) (p : SetLife) (w : Sole (λ (q : SetLife). eqb s q.number) (keep (live_set h) h.sets) p) where
  -- a live object is a member by its serial exactly if it is by its OID
  member-same : (o : ObjectLife) → In o (live_objects h) → is_member h s o ≡ among (set_of (live h) s).members o.oid
  unfolding live
  member-same o m =
      some-sole _ (sole-keep _ (live_set h) w) (λ q. among q.members o.serial)
      ∙ sym (among-oids h u (λ (q : ObjectLife). among p.members q.serial) o m)
      ∙ ap (λ (q : PingSet). among q.members o.oid) (sym (first-sole _ no_set (sole-map (λ (q : PingSet). eqb s q.number) (set_entry h) w)))

  -- a live member is heard now
  abbrev hearing : ObjectLife → ObjectLife
  hearing o = cond (is_member h s o && not (object_gone h o)) (heard_life h.clock o) o

  abbrev with_heard : History
  with_heard = with_object_lives (map hearing h.objects) h

  -- what it leaves
  hearing-still : {A : Type 0} (f : ObjectLife → A) → ((o : ObjectLife) → f (heard_life h.clock o) ≡ f o) → (o : ObjectLife) → f (hearing o) ≡ f o
  hearing-still f e o = by-test (λ (q : ObjectLife). f q ≡ f o) (is_member h s o && not (object_gone h o)) (heard_life h.clock o) o (λ t. e o) (λ t. refl)

  -- what is gone is the same
  hearing-gone : (o : ObjectLife) → object_gone with_heard (hearing o) ≡ object_gone h o
  hearing-gone o =
      ⊎_elim
      (λ t.
      let g = not-true (object_gone h o) (and_right (is_member h s o) (not (object_gone h o)) t) in
      ap (λ (b : Bool). object_gone with_heard (cond b (heard_life h.clock o) o)) t
      ∙ (λ v. or_left (interfaces_at_zero h o || exporter_removed h o) (unheard h o) g v || (ap (λ (b : Bool). not o.noping && b) (now-heard h.clock) ∙ and-false (not o.noping)) v)
      ∙ sym g)
      (λ t. ap (λ (b : Bool). object_gone with_heard (cond b (heard_life h.clock o) o)) t)
      (true-or-false (is_member h s o && not (object_gone h o)))

  -- the live objects are the same, some heard now
  heard-objects : live_objects with_heard ≡ map hearing (live_objects h)
  heard-objects =
      keep-map _ hearing _ ∙ ap (map hearing) (keep-ext _ _ (λ o. ap not (hearing-gone o)) h.objects)

  -- the interfaces are the same
  heard-interfaces : interfaces_over (map hearing (live_objects h)) (map hearing h.objects) h.interfaces ≡ interfaces_over (live_objects h) h.objects h.interfaces
  heard-interfaces =
      ap (map (interface_entry with_heard))
      (keep-ext _ (live_interface h)
      (λ l.
      ap (λ (b : Bool). not (at_zero l) && b)
      (some-map (λ (o : ObjectLife). eqb o.serial l.object) hearing (live_objects h)
      ∙ (λ v. some (λ (o : ObjectLife). eqb (hearing-still (λ q. q.serial) (λ q. refl) o v) l.object) (live_objects h))))
      h.interfaces)
      ∙ map-ext (interface_entry with_heard) (interface_entry h)
      (λ l v.
      record {
        ipid = l.ipid;
        iid = l.iid;
        object =
            first-unread no_object_life (λ (o : ObjectLife). eqb o.serial l.object) (λ o. o.oid) hearing
            (λ o. ap (λ (n : ℕ). eqb n l.object) (hearing-still (λ q. q.serial) (λ q. refl) o))
            (hearing-still (λ q. q.oid) (λ q. refl)) h.objects v;
        counts = map remaining l.accounts;
      })
      (keep (live_interface h) h.interfaces)

  -- the sets are the same
  heard-sets : sets_over h.clock (map hearing (live_objects h)) h.sets ≡ sets_over h.clock (live_objects h) h.sets
  heard-sets =
      map-ext _ (set_entry h)
      (λ q v.
      record {
        number = q.number;
        sequence = q.sequence;
        pinged = q.pinged;
        members =
            (ap (map (λ (o : ObjectLife). o.oid))
            (keep-map (λ (o : ObjectLife). among q.members o.serial) hearing (live_objects h)
            ∙ (λ i. map hearing (keep (λ (o : ObjectLife). among q.members (hearing-still (λ y. y.serial) (λ y. refl) o i)) (live_objects h))))
            ∙ map-unread (λ (o : ObjectLife). o.oid) hearing (hearing-still (λ y. y.oid) (λ y. refl)) (keep (λ (o : ObjectLife). among q.members o.serial) (live_objects h))) v;
      })
      (keep (live_set h) h.sets)

  -- the live entries with the members heard
  pub heard-entries : live with_heard
      ≡ with_objects (map (λ (o : Object). cond (among (set_of (live h) s).members o.oid) (heard_at h.clock o) o) (live h).objects) (live h)
  unfolding live
  heard-entries =
      λ v.
      record {
        clock = h.clock;
        next = h.next;
        exporters = map exporter_entry (live_exporters h);
        objects =
            changed-kept hearing (λ o. not (object_gone h o)) (λ o. not (object_gone with_heard o)) (object_entry h) (object_entry h)
            (λ o. cond (among (set_of (live h) s).members o.oid) (heard_at h.clock o) o) h.objects
            (λ o m. ap not (hearing-gone o))
            (λ o m t.
            chosen (object_entry h) (is_member h s o) (not (object_gone h o)) (heard_life h.clock o) o (heard_at h.clock (object_entry h o)) t refl
            ∙ ap (λ (b : Bool). cond b (heard_at h.clock (object_entry h o)) (object_entry h o)) (member-same o (in-keep (λ q. not (object_gone h q)) m t))) v;
        interfaces = (ap (λ (os : List ObjectLife). interfaces_over os (map hearing h.objects) h.interfaces) heard-objects ∙ heard-interfaces) v;
        sets = (ap (λ (os : List ObjectLife). sets_over h.clock os h.sets) heard-objects ∙ heard-sets) v;
      }

  -- the ping of the set
  pub ping-entries : live (ping_lives s h) ≡ ping s (live h)
  unfolding live
  ping-entries = cc (set-entries with_heard s (pinged_life h.clock) (pinged_at h.clock) (pinged-change with_heard), heard-entries)

-- ---- a set's members changed

module _ (h : History) (k : Kept h) (n : ℕ) (adds dels : List ℕ) where
  abbrev member_change : SetLife → SetLife
  member_change = changed n (object_serials h adds) (object_serials h dels)

  -- the change of the set's entry
  members-change : SetChange h member_change (λ q. with_sequence n (with_members (new_members (live h) adds dels q.members) q))
  unfolding live
  members-change =
      record {
        number = λ p. refl;
        lasting = λ p t. t;
        entry = λ p u. record { number = p.number; sequence = n; pinged = p.pinged; members = new p u };
      }
    where
      new : (p : SetLife) → (set_entry h (member_change p)).members ≡ new_members (live h) adds dels (set_entry h p).members
      new p =
          ap (map (λ (o : ObjectLife). o.oid))
          (keep-ext-in _ (λ o. (among (set_entry h p).members o.oid || among adds o.oid) && not (among dels o.oid)) (live_objects h)
          (λ o m.
          some-same-keep eqb eqb-decides (λ j. not (among (object_serials h dels) j)) o.serial (p.members ++ object_serials h adds)
          ∙ ap (λ (b : Bool). not (among (object_serials h dels) o.serial) && b) (some-append (eqb o.serial) p.members (object_serials h adds))
          ∙ and_comm (not (among (object_serials h dels) o.serial)) (among p.members o.serial || among (object_serials h adds) o.serial)
          ∙ (λ v.
          (sym (among-oids h (one-oid h k) (λ (q : ObjectLife). among p.members q.serial) o m) v || among-serials h k adds o m v)
          && not (among-serials h k dels o m v))))
          ∙ sym (keep-map (λ j. (among (set_entry h p).members j || among adds j) && not (among dels j)) (λ (o : ObjectLife). o.oid) (live_objects h))
          ∙ ap (keep (λ j. (among (set_entry h p).members j || among adds j) && not (among dels j))) (sym (map-map (λ (o : Object). o.oid) (object_entry h) (live_objects h)))

  -- the members are serials of objects
  change-members : (p : SetLife) → In p h.sets → (j : ℕ) → In j (member_change p).members → j < length h.objects
  change-members p m j w =
      ⊎_elim
      (λ v. k.members p m j v)
      (λ v.
      let r = map-in serial_of_object (keep (λ (o : ObjectLife). among adds o.oid) (live_objects h)) v in
      let b = k.objects.below r.0 (live-object h (keep-in (λ (o : ObjectLife). among adds o.oid) (live_objects h) r.1).0).0 in
      let e = r.2 in omega arith)
      (Memᴰ.append_cases p.members (keep-in (λ (i : ℕ). not (among (object_serials h dels) i)) (p.members ++ object_serials h adds) w).0)

-- ---- after a ping the history is kept

-- a set is the changed one or stays, and each keeps its members in range
members-at : (h : History) (s n : ℕ) (f : SetLife → SetLife) → ((p : SetLife) → In p h.sets → (j : ℕ) → In j p.members → j < n)
    → ((p : SetLife) → In p h.sets → (j : ℕ) → In j (f p).members → j < n)
    → (q : SetLife) → In q (at_live_set s f h).sets → (j : ℕ) → In j q.members → j < n
members-at h s n f a b q m j w =
    let r = map-in _ h.sets m in
    by-test (λ (p : SetLife). In j p.members → j < n) (eqb s r.0.number && live_set h r.0) (f r.0) r.0
    (λ t. b r.0 r.1 j) (λ t. a r.0 r.1 j) (rw r.2 at w)

-- a ping of s, perhaps after a change of sets
ping-kept : (h : History) → Kept h → (ss : List SetLife) (s : ℕ) → (p : SetLife) → (w : Sole (λ (q : SetLife). eqb s q.number) (keep (live_set h) ss) p)
    → ((q : SetLife) → In q ss → (j : ℕ) → In j q.members → j < length h.objects)
    → sound (live (ping_lives s (with_set_lives h.next ss h))) ≡ true → Kept (ping_lives s (with_set_lives h.next ss h))
ping-kept h k ss s p w b t =
    kept_from h (ping_lives s (with_set_lives h.next ss h)) k refl
    (map-unread still (hearing g u s p w) (hearing-still g u s p w still (λ o. refl)) h.objects)
    refl k.bounded
    (members-at g s (length h.objects) (pinged_life h.clock) b b)
    (λ o m.
    let r = map-in (hearing g u s p w) (live_objects h) (rw (heard-objects g u s p w) at m) in
    rw (ap still r.2 ∙ hearing-still g u s p w still (λ q. refl) r.0) (Memᴰ.map still r.1))
    t
  where
    g : History
    g = with_set_lives h.next ss h

    u : distinct eqb (map (λ (q : ObjectLife). q.oid) (live_objects h)) ≡ true
    u = one-oid h k

-- ---- a simple ping

-- what its refusal leaves
simple-accepted : (e : Entries) (s : ℕ) → number (editing (simple_ping s)) e ≡ 0 → is_live_set e s ≡ true
unfolding number refusals
simple-accepted e s a = not-false (is_live_set e s) (or_right (eqb s 0) (not (is_live_set e s)) (passed _ 11 _ (omega arith) a).0)

-- simple ping
pub simple-step : (h : History) → Kept h → (s : ℕ) → number (editing (simple_ping s)) (live h) ≡ 0 → Step (editing (simple_ping s)) h
unfolding lived next
simple-step h k s a =
    let f = found-set h k s (simple-accepted (live h) s a) in
    stepped (editing (simple_ping s)) h k a (ping-entries h (one-oid h k) s f.0 f.1) (ping-kept h k h.sets s f.0 f.1 k.members)

-- ---- a complex ping

-- of a live set
module _ (h : History) (k : Kept h) (n : ℕ) (adds dels : List ℕ) (s : ℕ) (l : is_live_set (live h) s ≡ true) where
  abbrev complex_lives : History
  complex_lives = ping_lives s (at_live_set s (changed n (object_serials h adds) (object_serials h dels)) h)

  abbrev complex_entries : Entries → Entries
  complex_entries e = ping s (at_set s (λ (p : PingSet). with_sequence n (with_members (new_members e adds dels p.members) p)) e)

  -- the set after its change
  changed-set : (p : SetLife) × Sole (λ (q : SetLife). eqb s q.number) (keep (live_set h) (at_live_set s (member_change h k n adds dels) h).sets) p
  changed-set = let f = found-set h k s l in (_, change-sole h s (member_change h k n adds dels) _ (members-change h k n adds dels) s f.1)

  -- the live entries after it
  complex-entries : live complex_lives ≡ complex_entries (live h)
  complex-entries =
      ping-entries (at_live_set s (member_change h k n adds dels) h) (one-oid h k) s changed-set.0 changed-set.1
      ∙ ap (ping s) (set-entries h s (member_change h k n adds dels) _ (members-change h k n adds dels))

  -- the history after it
  complex-kept : sound (live complex_lives) ≡ true → Kept complex_lives
  complex-kept =
      ping-kept h k (at_live_set s (member_change h k n adds dels) h).sets s changed-set.0 changed-set.1
      (members-at h s (length h.objects) (member_change h k n adds dels) k.members (change-members h k n adds dels))

-- a set made
start-entries : (h : History) → live (start_set h) ≡ make_set (live h)
unfolding live some
start-entries h =
    ap (λ (ss : List PingSet). with_next (h.next + 1) (with_sets ss (live h)))
    (ap (map (set_entry h))
    (keep_snoc (live_set h) h.sets _
    ∙ ap (λ (b : Bool). keep (live_set h) h.sets ++ cond (not b) (record { number = h.next; sequence = 0; pinged = h.clock; members = [] } ∷ []) []) (now-heard h.clock))
    ∙ map-append (set_entry h) (keep (live_set h) h.sets) _
    ∙ ap (λ (ms : List ℕ). map (set_entry h) (keep (live_set h) h.sets) ++ (record { number = h.next; sequence = 0; pinged = h.clock; members = ms } ∷ []))
    (ap (map (λ (o : ObjectLife). o.oid)) (keep-none (λ (o : ObjectLife). false) (live_objects h) (in-none (λ (o : ObjectLife). false) (live_objects h) (λ o m. refl)))))

-- the history with it
start-kept : (h : History) → Kept h → Kept (start_set h)
start-kept h k =
    kept_from h (start_set h) k refl refl refl k.bounded
    (λ p m j w. ⊎_elim (λ v. k.members p v j w) (λ q. absurd (Memᴰ.not-nil (rw q at w))) (snoc-in h.sets m))
    (λ o m. Memᴰ.map still m)
    (ap sound (start-entries h) ∙ sound-grouped (make_set (live h)) (set-made (live h) (grouped (live h) k.sound)))

-- it is live
made-live : (e : Entries) → is_live_set (make_set e) e.next ≡ true
made-live e =
    ap (some (eqb e.next)) (map-append (λ (p : PingSet). p.number) e.sets _)
    ∙ some-snoc (eqb e.next) (set_numbers e) e.next
    ∙ ap (λ (b : Bool). among (set_numbers e) e.next || b) (eq-eqb e.next e.next refl)
    ∙ or-true (among (set_numbers e) e.next)

-- what its refusals leave, where the set is not 0
complex-accepted : (e : Entries) (s n : ℕ) (adds dels : List ℕ) → eqb s 0 ≡ false → number (editing (complex_ping s n adds dels)) e ≡ 0 → is_live_set e s ≡ true
unfolding number refusals
complex-accepted e s n adds dels z a =
    let r = (passed (too_many adds || too_many dels) 10 _ (omega arith) a).1 in
    not-false (is_live_set e s) (passed _ 11 _ (omega arith) (rw z at r)).0

-- complex ping
pub complex-step : (h : History) → Kept h → (s n : ℕ) (adds dels : List ℕ) → number (editing (complex_ping s n adds dels)) (live h) ≡ 0 → Step (editing (complex_ping s n adds dels)) h
unfolding lived next live
complex-step h k s n adds dels a = stepped (editing (complex_ping s n adds dels)) h k a (entries (eqb s 0) refl) (kept (eqb s 0) refl)
  where
    lives : Bool → History
    lives b =
        let j : ℕ = cond b h.next s in
        ping_lives j (at_live_set j (changed n (object_serials h adds) (object_serials h dels)) (cond b (start_set h) h))

    after : Bool → Entries
    after b =
        let j : ℕ = cond b h.next s in
        ping j (at_set j (λ (p : PingSet). with_sequence n (with_members (new_members (live h) adds dels p.members) p)) (cond b (make_set (live h)) (live h)))

    alive : is_live_set (live (start_set h)) h.next ≡ true
    alive = cc (start-entries h, made-live (live h))

    entries : (b : Bool) → eqb s 0 ≡ b → live (lives b) ≡ after b
    entries true z = cc (complex-entries (start_set h) (start-kept h k) n adds dels h.next alive, start-entries h)
    entries false z = complex-entries h k n adds dels s (complex-accepted (live h) s n adds dels z a)

    kept : (b : Bool) → eqb s 0 ≡ b → sound (live (lives b)) ≡ true → Kept (lives b)
    kept true z = complex-kept (start_set h) (start-kept h k) n adds dels h.next alive
    kept false z = complex-kept h k n adds dels s (complex-accepted (live h) s n adds dels z a)
