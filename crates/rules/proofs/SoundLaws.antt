-- The clauses of `sound` by name, and by group.
use Prim.Native.Nat.{ℕ, zero, suc}
use mathlib.Core.Path.{◌≡◌, refl}
use mathlib.Core.Bool.{Bool, true, not}
use mathlib.Core.List.{List, [], ◌∷◌}
use lib.Dec.{eqb}
use lib.ListN.{length, get_or}
use borrow.Author.Tests.{eq-eqb, eqb-true}
use Rattle.kinds.proofs.Refusing.{same_test}
use Rattle.lists.specs.Lists.{holding}
use Rattle.lists.proofs.Tests.{and_left, and_right, holding-nil, holding-cons, holding-head, holding-tail}
use Rattle.rules.specs.Entries.{Entries, oxids, oids, ipids, set_numbers}
use Rattle.rules.specs.Sound.{proper, proper_guids, interface_objects_live, object_exporters_live, objects_have_interfaces, interfaces_held, set_members_live}
use Rattle.rules.specs.Sound.{heard_before, pinged_before, heard_recently, pinged_recently, sets_below_next, lists_kept, lists_inside, sound, groups}
use Rattle.rules.specs.Contract.{Memory, right_lengths, sound_memory, SoundTable}

-- the clause at an index of clauses that hold
pub clause-at : (bs : List Bool) (i : ℕ) → holding bs ≡ true → get_or bs i true ≡ true
clause-at [] i h = refl
clause-at (b ∷ bs) zero h = holding-head b bs h
clause-at (b ∷ bs) (suc i) h = clause-at bs i (holding-tail b bs h)

-- every clause of `sound` holds
pub record Sound (e : Entries) : Type 0 where
  pub exporters_proper : proper (oxids e) ≡ true
  pub objects_proper : proper (oids e) ≡ true
  pub ipids_proper : proper_guids (ipids e) ≡ true
  pub sets_proper : proper (set_numbers e) ≡ true
  pub interface_objects_live : interface_objects_live e ≡ true
  pub object_exporters_live : object_exporters_live e ≡ true
  pub objects_have_interfaces : objects_have_interfaces e ≡ true
  pub interfaces_held : interfaces_held e ≡ true
  pub set_members_live : set_members_live e ≡ true
  pub heard_before : heard_before e ≡ true
  pub pinged_before : pinged_before e ≡ true
  pub heard_recently : heard_recently e ≡ true
  pub pinged_recently : pinged_recently e ≡ true
  pub next_nonzero : not (eqb e.next 0) ≡ true
  pub sets_below_next : sets_below_next e ≡ true
  pub lists_kept : lists_kept e ≡ true
  pub lists_inside : lists_inside e ≡ true

pub sound-fields : (e : Entries) → sound e ≡ true → Sound e
unfolding sound
sound-fields e h =
    record {
      exporters_proper = clause-at _ 0 h;
      objects_proper = clause-at _ 1 h;
      ipids_proper = clause-at _ 2 h;
      sets_proper = clause-at _ 3 h;
      interface_objects_live = clause-at _ 4 h;
      object_exporters_live = clause-at _ 5 h;
      objects_have_interfaces = clause-at _ 6 h;
      interfaces_held = clause-at _ 7 h;
      set_members_live = clause-at _ 8 h;
      heard_before = clause-at _ 9 h;
      pinged_before = clause-at _ 10 h;
      heard_recently = clause-at _ 11 h;
      pinged_recently = clause-at _ 12 h;
      next_nonzero = clause-at _ 13 h;
      sets_below_next = clause-at _ 14 h;
      lists_kept = clause-at _ 15 h;
      lists_inside = clause-at _ 16 h;
    }

-- clauses that hold, one before the others
pub record Holding (bs : List Bool) : Type 0 where
  pub together : holding bs ≡ true

pub none : Holding []
none = record { together = holding-nil }

infixr 5 ◌and◌
pub ◌and◌ : {b : Bool} {bs : List Bool} → b ≡ true → Holding bs → Holding (b ∷ bs)
◌and◌ {b} {bs} p q = record { together = holding-cons b bs p q.together }

-- ---- by groups

-- the groups hold where every clause does
groups-hold : (e : Entries) → Sound e → holding (groups e) ≡ true
groups-hold e s =
    ((s.lists_kept and s.lists_inside and none).together
    and (s.exporters_proper and s.object_exporters_live and s.objects_proper and s.interface_objects_live and s.objects_have_interfaces and none).together
    and (s.heard_before and s.heard_recently and none).together
    and (s.ipids_proper and s.interfaces_held and none).together
    and (s.sets_proper and s.pinged_before and s.pinged_recently and s.sets_below_next and s.next_nonzero and s.set_members_live and none).together
    and none).together

groups-sound : (e : Entries) → holding (groups e) ≡ true → sound e ≡ true
unfolding sound
groups-sound e h =
    let xs = clause-at (groups e) 0 h in
    let ns = clause-at (groups e) 1 h in
    let os = clause-at (groups e) 2 h in
    let is = clause-at (groups e) 3 h in
    let ss = clause-at (groups e) 4 h in
    (clause-at _ 0 ns and clause-at _ 2 ns and clause-at _ 0 is and clause-at _ 0 ss
    and clause-at _ 3 ns and clause-at _ 1 ns and clause-at _ 4 ns and clause-at _ 1 is and clause-at _ 5 ss
    and clause-at _ 0 os and clause-at _ 1 ss and clause-at _ 1 os and clause-at _ 2 ss
    and clause-at _ 4 ss and clause-at _ 3 ss and clause-at _ 0 xs and clause-at _ 1 xs and none).together

-- `sound` is its groups together
pub sound-groups : (e : Entries) → sound e ≡ holding (groups e)
sound-groups e =
    same_test (sound e) (holding (groups e))
    (λ h. groups-hold e (sound-fields e h))
    (groups-sound e)

-- sound where every clause holds
pub sound-made : (e : Entries) → Sound e → sound e ≡ true
sound-made e s = groups-sound e (groups-hold e s)

-- ---- of a lent table

pub table-fields : (view : Memory → Entries) (m : Memory) → sound_memory view m ≡ true → SoundTable view m
unfolding sound_memory
table-fields view m h =
    let lengths = and_left (right_lengths m) (sound (view m)) h in
    record {
      words = eqb-true _ _ (and_left (eqb (length m.words) 8192) (eqb (length m.store) 8192) lengths);
      store = eqb-true _ _ (and_right (eqb (length m.words) 8192) (eqb (length m.store) 8192) lengths);
      entries = and_right (right_lengths m) (sound (view m)) h;
    }

pub table-made : (view : Memory → Entries) (m : Memory) → SoundTable view m → sound_memory view m ≡ true
unfolding sound_memory
table-made view m s = rw (eq-eqb _ _ s.words, eq-eqb _ _ s.store) s.entries
