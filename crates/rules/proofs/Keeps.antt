-- Every accepted call leaves sound entries.
use Prim.Native.Nat.{ℕ, ◌+◌}
use mathlib.Core.Path.{◌≡◌, refl}
use mathlib.Core.Bool.{Bool, true}
use mathlib.Core.List.{List, [], ◌∷◌}
use native.Mathlib.Omega.{arith}
use borrow.Author.Tests.{not-false, ltb-false}
use lib.ListN.{length}
use lib.Dec.{eqb, ltb, leb}
use Rattle.kinds.specs.declared.Guid.{Guid}
use Rattle.kinds.proofs.Refusing.{or-false, passed, passed_on, by-test}
use Rattle.bindings.specs.Bindings.{list_answer}
use Rattle.lists.specs.Lists.{every, distinct, holding, among}
use Rattle.lists.specs.Guids.{same_guid}
use Rattle.rules.specs.Entries.{Entries, exporter_places, fresh, oxids, oids, lists_length}
use Rattle.rules.specs.Calls.{starting, looking, editing, Counting, adding, releasing, reset, enter_exporter, remove_exporter, enter_object}
use Rattle.rules.specs.Calls.{enter_interface, add, release, drop_client, count_list, simple_ping, complex_ping, clock, load_snapshot}
use Rattle.rules.specs.Items.{Item, items_of, item_call}
use Rattle.rules.specs.Sound.{longest_list, store_bytes, sound}
use Rattle.rules.specs.Snapshot.{entries_of, is_snapshot}
use Rattle.rules.specs.Rules.{counted, items_done, refusals, number, next, any_ipid}
use Rattle.rules.specs.Contract.{Keeps}
use Rattle.rules.proofs.SoundLaws.{clause-at}
use Rattle.rules.proofs.Groups.{Grouped, grouped, sound-grouped}
use Rattle.rules.proofs.ChangedCounts.{entered-held}
use Rattle.rules.proofs.EnteringKeeps.{exporter-entered, object-entered, interface-entered, counts-added}
use Rattle.rules.proofs.LeavingKeeps.{exporter-removed, clock-set, counts-taken}
use Rattle.rules.proofs.PingingKeeps.{set-pinged, members-pinged}

-- no entries are sound
pub fresh-sound : (t : ℕ) → sound (fresh t) ≡ true
unfolding sound holding every distinct lists_length
fresh-sound t = refl

-- the calls whose refusals say what they need
module _ (e : Entries) (g : Grouped e) where
  exporter-case : (x : ℕ) (u : Guid) (b : List ℕ) → number (editing (enter_exporter x u b)) e ≡ 0 → Grouped (next (editing (enter_exporter x u b)) e)
  unfolding number refusals next
  exporter-case x u b h =
      let r = passed _ 3 _ (omega arith) h in
      let s = passed_on (list_answer b) _ r.1 in
      let l = passed _ 19 _ (omega arith) s.1 in
      let f = or-false (leb exporter_places (length e.exporters)) (ltb store_bytes (lists_length e.exporters + length b)) (passed _ 9 _ (omega arith) l.1).0 in
      let n = or-false _ _ r.0 in
      exporter-entered e _ g n.0 n.1 s.0 (ltb-false longest_list (length b) l.0) (ltb-false store_bytes (lists_length e.exporters + length b) f.1)

  object-case : (o x : ℕ) (i iid : Guid) (n : ℕ) (np : Bool) → number (editing (enter_object o x i iid n np)) e ≡ 0 → Grouped (next (editing (enter_object o x i iid n np)) e)
  unfolding number refusals next
  object-case o x i iid n np h =
      let r = passed _ 3 _ (omega arith) h in
      let s = passed _ 4 _ (omega arith) r.1 in
      let c = passed _ 7 _ (omega arith) s.1 in
      let f = or-false _ _ r.0 in
      object-entered e _ _ g f.0 f.1 (not-false (among (oxids e) x) s.0) refl refl (entered-held n c.0)

  interface-case : (o : ℕ) (i iid : Guid) (n : ℕ) → number (editing (enter_interface o i iid n)) e ≡ 0 → Grouped (next (editing (enter_interface o i iid n)) e)
  unfolding number refusals next
  interface-case o i iid n h =
      let r = passed _ 3 _ (omega arith) h in
      let s = passed _ 5 _ (omega arith) r.1 in
      let c = passed _ 7 _ (omega arith) s.1 in
      interface-entered e _ g r.0 (not-false (among (oids e) o) s.0) (entered-held n c.0)

  clock-case : (t : ℕ) → number (editing (clock t)) e ≡ 0 → Grouped (next (editing (clock t)) e)
  unfolding number refusals
  clock-case t h = clock-set e t g (ltb-false t e.clock (passed _ 2 _ (omega arith) h).0)

-- references counted
pub counted-grouped : (w : Counting) (c : ℕ) (i : Guid) (p q : ℕ) (e : Entries) → Grouped e → Grouped (counted w c i p q e)
counted-grouped adding c i p q e g = counts-added e i c p q g
counted-grouped releasing c i p q e g = counts-taken e (same_guid i) _ (λ r. refl) g

-- items done
items-grouped : (w : Counting) (c : ℕ) (ts : List Item) (e : Entries) → Grouped e → Grouped (items_done w c ts e)
unfolding items_done
items-grouped w c [] e g = g
items-grouped w c (t ∷ ts) e g =
    items-grouped w c ts _ (by-test Grouped (eqb (number (item_call w c t) e) 0) _ e (λ h. counted-grouped w c t.ipid t.public t.private e g) (λ h. g))

-- an accepted load is of a snapshot, whose entries are sound
pub loaded-snapshot : (b : List ℕ) (e : Entries) → number (starting (load_snapshot b)) e ≡ 0 → is_snapshot b ≡ true
unfolding number refusals
loaded-snapshot b e h = not-false (is_snapshot b) (passed _ 23 _ (omega arith) h).0

pub loaded-sound : (b : List ℕ) (e : Entries) → number (starting (load_snapshot b)) e ≡ 0 → sound (entries_of b) ≡ true
unfolding is_snapshot
loaded-sound b e h = clause-at _ 2 (loaded-snapshot b e h)

-- each accepted call leaves sound entries
pub keeps : Keeps
unfolding next
keeps (starting (reset t)) e s h = fresh-sound t
keeps (editing (enter_exporter x u b)) e s h = sound-grouped _ (exporter-case e (grouped e s) x u b h)
keeps (editing (remove_exporter x)) e s h = sound-grouped _ (exporter-removed e x (grouped e s))
keeps (editing (enter_object o x i iid n np)) e s h = sound-grouped _ (object-case e (grouped e s) o x i iid n np h)
keeps (editing (enter_interface o i iid n)) e s h = sound-grouped _ (interface-case e (grouped e s) o i iid n h)
keeps (editing (add c i p q)) e s h = sound-grouped _ (counted-grouped adding c i p q e (grouped e s))
keeps (editing (release c i p q)) e s h = sound-grouped _ (counted-grouped releasing c i p q e (grouped e s))
keeps (editing (drop_client c)) e s h = sound-grouped _ (counts-taken e any_ipid _ (λ r. refl) (grouped e s))
keeps (count_list w c s b) e d h = sound-grouped _ (items-grouped w c (items_of s) e (grouped e d))
keeps (editing (simple_ping k)) e s h = sound-grouped _ (set-pinged e k (grouped e s))
keeps (editing (complex_ping k n adds dels)) e s h = sound-grouped _ (members-pinged e (eqb k 0) _ n adds dels (grouped e s))
keeps (editing (clock t)) e s h = sound-grouped _ (clock-case e (grouped e s) t h)
keeps (looking l) e s h = s
keeps (starting (load_snapshot b)) e s h = loaded-sound b e h
