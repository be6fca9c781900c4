-- The pings leave sound entries: what is heard is heard now, and members are live objects.
use Prim.Native.Nat.{ℕ, ◌+◌}
use mathlib.Core.Path.{◌≡◌, refl, ap, ◌∙◌}
use mathlib.Core.Bool.{Bool, true, false, cond, not, ◌||◌, or-true}
use mathlib.Core.List.{List, [], ◌∷◌, ◌++◌, map}
use native.Mathlib.Omega.{arith}
use borrow.Author.Tests.{ltb-true, lt-ltb, ne_eqb, le-leb, not-true}
use lib.Dec.{eqb, ltb, leb}
use Rattle.kinds.proofs.Refusing.{by-test}
use Rattle.lists.specs.Lists.{every, among}
use Rattle.lists.proofs.Lists.{every-nil, every-snoc, every-mono, every-kept, none-some, map-append, map-unread-at, every-changed-at}
use Rattle.lists.proofs.Distinct.{eqb-decides}
use Rattle.rules.specs.Entries.{Object, PingSet, Entries, oids, set_numbers, with_objects, heard_at, pinged_at, with_sequence, with_members}
use Rattle.rules.specs.Sound.{overdue, heard_within, pinged_within}
use Rattle.rules.specs.Rules.{set_of, at_set, ping, new_members, make_set}
use Rattle.rules.proofs.Groups.{fine-entered, sets-replaced, ObjectsSound, SetsSound, Grouped}
use Rattle.rules.proofs.EnteringKeeps.{not-overdue}
use Rattle.rules.proofs.LeavingKeeps.{among-itself}

-- objects that pass t are heard now
objects-heard : {now : ℕ} {exporters : List ℕ} (t : Object → Bool) (os : List Object) → ObjectsSound now exporters os
    → ObjectsSound now exporters (map (λ (o : Object). cond (t o) (heard_at now o) o) os)
objects-heard {now} {exporters} t os s =
    record {
      ids = rw (map-unread-at t (heard_at now) (λ o. o.oid) (λ o. refl) os) s.ids;
      named = every-changed-at t (heard_at now) (λ o. among exporters o.exporter) (λ o h. h) os s.named;
      by_clock = every-changed-at t (heard_at now) (λ o. leb o.heard now) (λ o h. le-leb now now (omega arith)) os s.by_clock;
      lately =
          every-changed-at t (heard_at now) (heard_within now)
          (λ o h. rw (not-overdue now) (or-true o.noping)) os s.lately;
    }

-- a change of a set that keeps its number, names live objects, and leaves the time of its ping or makes it now
record Changes (now : ℕ) (objects : List ℕ) (f : PingSet → PingSet) : Type 0 where
  number : (s : PingSet) → (f s).number ≡ s.number
  named : (s : PingSet) → every (among objects) s.members ≡ true → every (among objects) (f s).members ≡ true
  pinged : (p : ℕ → Bool) → p now ≡ true → (s : PingSet) → p s.pinged ≡ true → p (f s).pinged ≡ true

-- sets that pass t are changed
sets-changed : {now next : ℕ} {objects : List ℕ} (t : PingSet → Bool) (f : PingSet → PingSet) → Changes now objects f → (ss : List PingSet) → SetsSound now next objects ss
    → SetsSound now next objects (map (λ (s : PingSet). cond (t s) (f s) s) ss)
sets-changed {now} {next} {objects} t f c ss s =
    record {
      ids = rw (map-unread-at t f (λ p. p.number) c.number ss) s.ids;
      named = every-changed-at t f (λ p. every (among objects) p.members) c.named ss s.named;
      by_clock = every-changed-at t f (λ p. leb p.pinged now) (c.pinged (λ n. leb n now) (le-leb now now (omega arith))) ss s.by_clock;
      lately = every-changed-at t f (pinged_within now) (c.pinged (λ n. not (overdue now n)) (ap not (not-overdue now))) ss s.lately;
      nonzero = s.nonzero;
      below = rw (map-unread-at t f (λ p. p.number) c.number ss) s.below;
    }

-- one set changed
set-changed : (e : Entries) (k : ℕ) (f : PingSet → PingSet) → Changes e.clock (oids e) f → Grouped e → Grouped (at_set k f e)
set-changed e k f c g =
    sets-replaced e e.next _ g (sets-changed (λ p. eqb k p.number) f c e.sets g.sets)

-- objects heard now
members-heard : (e : Entries) (t : Object → Bool) → Grouped e → Grouped (with_objects (map (λ (o : Object). cond (t o) (heard_at e.clock o) o) e.objects) e)
members-heard e t g =
    let same = map-unread-at t (heard_at e.clock) (λ o. o.oid) (λ o. refl) e.objects in
    record {
      exporters = g.exporters;
      objects = objects-heard t e.objects g.objects;
      ids = g.ids;
      interfaces = rw same g.interfaces;
      sets = rw same g.sets;
    }

-- a set pinged
pub set-pinged : (e : Entries) (k : ℕ) → Grouped e → Grouped (ping k e)
set-pinged e k g =
    set-changed _ k (pinged_at e.clock)
    (record { number = λ s. refl; named = λ s h. h; pinged = λ p a s b. a })
    (members-heard e (λ o. among (set_of e k).members o.oid) g)

-- the set that is made
abbrev pub new_set : Entries → PingSet
new_set e = record { number = e.next; sequence = 0; pinged = e.clock; members = [] }

-- the next set number is no set's
pub next-free : (e : Entries) → Grouped e → (eqb e.next 0 || among (set_numbers e) e.next) ≡ false
next-free e g =
    rw (not-true (eqb e.next 0) g.sets.nonzero)
    (none-some (eqb e.next) (set_numbers e)
    (every-mono (λ n. ltb n e.next) (λ n. not (eqb e.next n))
    (λ n h. let l = ltb-true n e.next h in ap not (ne_eqb e.next n (λ q. omega arith)))
    (set_numbers e) g.sets.below))

-- a set made
pub set-made : (e : Entries) → Grouped e → Grouped (make_set e)
set-made e g =
    sets-replaced e (e.next + 1) (e.sets ++ (new_set e ∷ [])) g
    (record {
      ids = fine-entered eqb 0 (λ (s : PingSet). s.number) eqb-decides (new_set e) e.sets (next-free e g) g.sets.ids;
      named = every-snoc (λ (s : PingSet). every (among (oids e)) s.members) e.sets (new_set e) ∙ rw g.sets.named (every-nil (among (oids e)));
      by_clock = every-snoc (λ (s : PingSet). leb s.pinged e.clock) e.sets (new_set e) ∙ rw g.sets.by_clock (le-leb e.clock e.clock (omega arith));
      lately =
          every-snoc (pinged_within e.clock) e.sets (new_set e)
          ∙ rw g.sets.lately (ap not (not-overdue e.clock));
      nonzero = ap not (ne_eqb (e.next + 1) 0 (omega arith));
      below =
          rw (map-append (λ (s : PingSet). s.number) e.sets (new_set e ∷ []))
          (every-snoc (λ n. ltb n (e.next + 1)) (set_numbers e) e.next
          ∙ rw
          (every-mono (λ n. ltb n e.next) (λ n. ltb n (e.next + 1))
          (λ n h. let l = ltb-true n e.next h in lt-ltb n (e.next + 1) (omega arith)) (set_numbers e) g.sets.below)
          (lt-ltb e.next (e.next + 1) (omega arith)));
    })

-- a set's sequence number and members changed, perhaps of a new set, and the set pinged
pub members-pinged : (e : Entries) (new : Bool) (k n : ℕ) (adds dels : List ℕ) → Grouped e
    → Grouped (ping k (at_set k (λ (p : PingSet). with_sequence n (with_members (new_members e adds dels p.members) p)) (cond new (make_set e) e)))
members-pinged e new k n adds dels g =
    set-pinged _ k
    (by-test (λ (f : Entries). Grouped (at_set k change f)) new (make_set e) e
    (λ t. set-changed (make_set e) k change changes (set-made e g))
    (λ t. set-changed e k change changes g))
  where
    change : PingSet → PingSet
    change p = with_sequence n (with_members (new_members e adds dels p.members) p)

    changes : Changes e.clock (oids e) change
    changes =
        record {
          number = λ s. refl;
          named = λ s h. every-kept (among (oids e)) _ (oids e) (among-itself (oids e));
          pinged = λ p a s b. b;
        }
