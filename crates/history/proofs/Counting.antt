-- Add, release and a client's drop: a count is what was granted less what was taken, and what is at zero goes.
use Prim.Native.Nat.{ℕ, suc}
use mathlib.Core.Path.{◌≡◌, refl, sym, ap, ◌∙◌}
use mathlib.Core.Bool.{Bool, true, false, cond, not, ◌&&◌, ◌||◌, and-true, and-false, or-false}
use mathlib.Core.List.Memᴰ
use mathlib.Core.List.{List, map}
use mathlib.Core.Logic.{⊎_elim}
use borrow.Author.Tests.{eq-eqb, ne_eqb, eqb-true, eqb-false}
use lib.Dec.{eqb}
use Rattle.kinds.specs.declared.Guid.{Guid}
use Rattle.kinds.proofs.Refusing.{by-test}
use Rattle.lists.specs.Lists.{keep, some, every}
use Rattle.lists.specs.Guids.{same_guid}
use Rattle.lists.proofs.Tests.{true-or-false, and_right}
use Rattle.lists.proofs.Lists.{every_map, every-mono, some-map, some-keep, some-not, keep-map, keep-keep, map-unread}
use Rattle.lists.proofs.Distinct.{eqb-decides}
use Rattle.rules.specs.Entries.{Interface, Entries, with_interfaces, at_count, at_counts}
use Rattle.rules.specs.Calls.{editing, add, release, drop_client}
use Rattle.rules.specs.Sound.{sound, held, has_interface}
use Rattle.rules.specs.Rules.{any_ipid, number, next, at_interfaces, without_objects, drop_empty}
use Rattle.rules.proofs.Keeps.{keeps}
use Rattle.rules.proofs.NothingGoes.{full-kept}
use Rattle.history.specs.History.{ObjectLife, Account, InterfaceLife, History, at_zero, interfaces_at_zero, exporter_removed, unheard, object_gone, live_exporters}
use Rattle.history.specs.History.{live_objects, live_interface, exporter_entry, object_entry, interface_entry, live, at_account, at_accounts, at_live_interfaces, lived}
use Rattle.lists.proofs.Elements.{In, map-in, in_some, some_in, keep-in, in-keep, keep-ext-in, kept-changed, one_in}
use Rattle.history.proofs.Lives.{Kept, kept_from, Bounded, still}
use Rattle.history.proofs.Accounts.{none_left, Moves, moved-counts, moved-bounds, grants, takes, takes_all}
use Rattle.history.proofs.Identities.{owner-oid, one-oid}
use Rattle.history.proofs.Steps.{interfaces_over, chosen, Step, stepped}
use Rattle.history.proofs.Leaving.{entries_over, goes-along}

-- an interface of which something is left is held
held-zero : (h : History) (l : InterfaceLife) → held (interface_entry h l) ≡ not (at_zero l)
held-zero h l = none_left l.accounts

-- ---- the live interfaces whose IPID passes t changed by f, as their entries are by g

pub record Change (h : History) (f : InterfaceLife → InterfaceLife) (g : Interface → Interface) : Type 0 where
  pub ipid : (l : InterfaceLife) → (f l).ipid ≡ l.ipid
  pub object : (l : InterfaceLife) → (f l).object ≡ l.object
  pub bounded : (l : InterfaceLife) → Bounded l → Bounded (f l)
  pub entry : (l : InterfaceLife) → Bounded l → interface_entry h (f l) ≡ g (interface_entry h l)

module _ (h : History) (k : Kept h) (meant : Guid → Bool) (f : InterfaceLife → InterfaceLife) (g : Interface → Interface) (c : Change h f g) where
  abbrev change : InterfaceLife → InterfaceLife
  change l = cond (meant l.ipid && live_interface h l) (f l) l

  abbrev change_entry : Interface → Interface
  change_entry r = cond (meant r.ipid) (g r) r

  -- its object stays
  change-object : (l : InterfaceLife) → (change l).object ≡ l.object
  change-object l = by-test (λ (j : InterfaceLife). j.object ≡ l.object) (meant l.ipid && live_interface h l) (f l) l (λ t. c.object l) (λ t. refl)

  -- no more is taken than granted
  change-bounded : (l : InterfaceLife) → In l (map change h.interfaces) → Bounded l
  change-bounded l m =
      let r = map-in change h.interfaces m in
      let b = k.bounded r.0 r.1 in
      rw r.2 (by-test Bounded (meant r.0.ipid && live_interface h r.0) (f r.0) r.0 (λ t. c.bounded r.0 b) (λ t. b))

  -- one that is not live stays
  change-dead : (l : InterfaceLife) → live_interface h l ≡ false → change l ≡ l
  change-dead l t = cc (t, and-false (meant l.ipid))

  -- the entry of a live one changes along
  change-entry : (l : InterfaceLife) → In l h.interfaces → live_interface h l ≡ true → interface_entry h (change l) ≡ change_entry (interface_entry h l)
  change-entry l m t = chosen (interface_entry h) (meant l.ipid) (live_interface h l) (f l) l (g (interface_entry h l)) t (c.entry l (k.bounded l m))

  -- an object whose interfaces are at zero after the change
  change-zero : (o : ObjectLife) → interfaces_at_zero (at_live_interfaces meant f h) o ≡ every (λ (l : InterfaceLife). not (eqb l.object o.serial) || at_zero (change l)) h.interfaces
  change-zero o =
      every_map (λ (l : InterfaceLife). not (eqb l.object o.serial) || at_zero l) change h.interfaces
      ∙ (λ u. every (λ (l : InterfaceLife). not (eqb (change-object l u) o.serial) || at_zero (change l)) h.interfaces)

  -- the history after the change
  change-kept : (p : ObjectLife → Bool) → live_objects (at_live_interfaces meant f h) ≡ keep p (live_objects h) → sound (live (at_live_interfaces meant f h)) ≡ true → Kept (at_live_interfaces meant f h)
  change-kept p e s =
      kept_from h (at_live_interfaces meant f h) k refl refl (map-unread (λ (l : InterfaceLife). l.object) change change-object h.interfaces) change-bounded k.members
      (λ o m. Memᴰ.map still (keep-in p (live_objects h) (rw e at m)).0) s

  -- the interfaces of live objects that are not at zero are those held
  change-interfaces : interfaces_over (live_objects h) h.objects (map change h.interfaces) ≡ keep held (map change_entry (live h).interfaces)
  unfolding live
  change-interfaces =
      kept-changed change (live_interface h) (live_interface h) (interface_entry h) (interface_entry h) (λ r. held (change_entry r)) change_entry h.interfaces
      (λ l m.
      ⊎_elim
      (λ t.
      ap (λ (n : ℕ). not (at_zero (change l)) && some (λ (o : ObjectLife). eqb o.serial n) (live_objects h)) (change-object l)
      ∙ ap (λ (b : Bool). not (at_zero (change l)) && b) (and_right (not (at_zero l)) _ t)
      ∙ and-true (not (at_zero (change l)))
      ∙ sym (held-zero h (change l))
      ∙ ap held (change-entry l m t)
      ∙ sym (ap (λ (b : Bool). b && held (change_entry (interface_entry h l))) t))
      (λ t. ap (live_interface h) (change-dead l t) ∙ t ∙ sym (ap (λ (b : Bool). b && held (change_entry (interface_entry h l))) t))
      (true-or-false (live_interface h l)))
      (λ l m t u. change-entry l m t)
      ∙ sym (keep-map held change_entry (map (interface_entry h) (keep (live_interface h) h.interfaces)))

  -- the live entries with the interfaces that are held then
  abbrev left_entries : Entries
  left_entries = with_interfaces (keep held (map change_entry (live h).interfaces)) (live h)

  -- an interface is of a live object by its serial exactly if it is by its OID
  same-owner : (o : ObjectLife) → In o (live_objects h) → (l : InterfaceLife) → (live_interface h l && eqb o.oid (interface_entry h l).object) ≡ (eqb l.object o.serial && not (at_zero l))
  same-owner o m l =
      ⊎_elim
      (λ t.
      let e : o.serial ≡ l.object = sym (eqb-true l.object o.serial t) in
      let live = in_some (λ (p : ObjectLife). eqb p.serial l.object) m (eq-eqb _ _ e) in
      (λ u. not (at_zero l) && live u && eq-eqb o.oid (interface_entry h l).object (sym (owner-oid h k l o m e)) u)
      ∙ and-true (not (at_zero l) && true)
      ∙ and-true (not (at_zero l))
      ∙ sym (ap (λ (b : Bool). b && not (at_zero l)) t))
      (λ t.
      ⊎_elim
      (λ s.
      let r = some_in (λ (p : ObjectLife). eqb p.serial l.object) (live_objects h) s in
      let e = eqb-true r.0.serial l.object r.2 in
      ap (λ (b : Bool). live_interface h l && b)
      (ne_eqb o.oid (interface_entry h l).object
      (λ q.
      let w : o ≡ r.0 = one_in eqb eqb-decides (λ (p : ObjectLife). p.oid) (live_objects h) (one-oid h k) m r.1 (q ∙ owner-oid h k l r.0 r.1 e) in
      eqb-false l.object o.serial t (sym e ∙ ap (λ (p : ObjectLife). p.serial) (sym w))))
      ∙ and-false (live_interface h l)
      ∙ sym (ap (λ (b : Bool). b && not (at_zero l)) t))
      (λ s.
      ap (λ (b : Bool). not (at_zero l) && b && eqb o.oid (interface_entry h l).object) s
      ∙ ap (λ (b : Bool). b && eqb o.oid (interface_entry h l).object) (and-false (not (at_zero l)))
      ∙ sym (ap (λ (b : Bool). b && not (at_zero l)) t))
      (true-or-false (some (λ (p : ObjectLife). eqb p.serial l.object) (live_objects h))))
      (true-or-false (eqb l.object o.serial))

  -- a live object has an interface left exactly if not all are at zero
  change-served : (o : ObjectLife) → In o (live_objects h) → not (interfaces_at_zero (at_live_interfaces meant f h) o) ≡ has_interface left_entries (object_entry h o)
  change-served o m =
      (λ u. not (every (λ (l : InterfaceLife). demorgan (eqb l.object o.serial) (at_zero l) u) (map change h.interfaces)))
      ∙ sym (some-not (λ (l : InterfaceLife). eqb l.object o.serial && not (at_zero l)) (map change h.interfaces))
      ∙ (λ u. some (λ (l : InterfaceLife). sym (same-owner o m l) u) (map change h.interfaces))
      ∙ sym (some-keep (λ (l : InterfaceLife). eqb o.oid (interface_entry h l).object) (live_interface h) (map change h.interfaces))
      ∙ sym (some-map (λ (r : Interface). eqb o.oid r.object) (interface_entry h) (keep (live_interface h) (map change h.interfaces)))
      ∙ ap (some (λ (r : Interface). eqb o.oid r.object)) change-interfaces
    where
      demorgan : (a b : Bool) → (not a || b) ≡ not (a && not b)
      demorgan true true = refl
      demorgan true false = refl
      demorgan false b = refl

  -- the objects that have an interface left
  change-objects : live_objects (at_live_interfaces meant f h) ≡ keep (λ o. has_interface left_entries (object_entry h o)) (live_objects h)
  change-objects =
      keep-ext-in _ _ _ (λ o m.
      dropped (interfaces_at_zero h o) _ (exporter_removed h o) (unheard h o) _
      (λ t. change-zero o ∙ every-mono _ _ (zero-stays o) h.interfaces t)
      (λ t. change-served o (in-keep (λ p. not (object_gone h p)) m (ap not t))))
      ∙ sym (keep-keep _ _ _)
    where
      dropped : (z z' r u s : Bool) → (z ≡ true → z' ≡ true) → ((z || r || u) ≡ false → not z' ≡ s) → not (z' || r || u) ≡ (not (z || r || u) && s)
      dropped true z' r u s a b = ap (λ (c : Bool). not (c || r || u)) (a refl)
      dropped false true true u s a b = refl
      dropped false true false true s a b = refl
      dropped false true false false s a b = b refl
      dropped false false true u s a b = refl
      dropped false false false true s a b = refl
      dropped false false false false s a b = b refl

      zero-stays : (o : ObjectLife) (l : InterfaceLife) → (not (eqb l.object o.serial) || at_zero l) ≡ true → (not (eqb l.object o.serial) || at_zero (change l)) ≡ true
      zero-stays o l t =
          ⊎_elim
          (λ z. ap (λ (j : InterfaceLife). not (eqb l.object o.serial) || at_zero j)
          (change-dead l (ap (λ (b : Bool). not b && some (λ (p : ObjectLife). eqb p.serial l.object) (live_objects h)) z)) ∙ t)
          (λ z. ap (λ (b : Bool). b || at_zero (change l)) (sym (or-false (not (eqb l.object o.serial))) ∙ ap (λ (b : Bool). not (eqb l.object o.serial) || b) (sym z) ∙ t))
          (true-or-false (at_zero l))

  -- what is at zero goes from the live entries as it is gone in the history
  pub change-entries : live (at_live_interfaces meant f h) ≡ drop_empty (at_interfaces meant g (live h))
  unfolding live
  change-entries =
      ap (λ (os : List ObjectLife). entries_over h h.clock (map exporter_entry (live_exporters h)) os (map change h.interfaces) h.sets) change-objects
      ∙ sym (goes-along h k (has_interface left_entries) h.clock (map exporter_entry (live_exporters h)) (map change h.interfaces) h.sets)
      ∙ ap (λ (is : List Interface). without_objects (has_interface left_entries) (with_interfaces is (live h))) change-interfaces

  -- the history after the change
  pub count_kept : sound (live (at_live_interfaces meant f h)) ≡ true → Kept (at_live_interfaces meant f h)
  count_kept = change-kept (λ o. has_interface left_entries (object_entry h o)) change-objects

-- ---- the calls

-- an account moved, of every life that is changed
abbrev account_change : (h : History) {f : Account → Account} {g : ℕ → ℕ} → Moves f g → (n : ℕ) → Change h (at_account n f) (at_count n g)
account_change h m n =
    record {
      ipid = λ l. refl;
      object = λ l. refl;
      bounded = λ l b. record { each = moved-bounds m n l.accounts b.each };
      entry = λ l b u. record { ipid = l.ipid; iid = l.iid; object = (interface_entry h l).object; counts = moved-counts m n l.accounts b.each u };
    }

-- two changes, one after the other
both : (h : History) {f f' : InterfaceLife → InterfaceLife} {g g' : Interface → Interface} → Change h f g → Change h f' g' → Change h (λ l. f' (f l)) (λ r. g' (g r))
both h {f} {f'} {g} {g'} a b =
    record {
      ipid = λ l. b.ipid (f l) ∙ a.ipid l;
      object = λ l. b.object (f l) ∙ a.object l;
      bounded = λ l w. b.bounded (f l) (a.bounded l w);
      entry = λ l w. b.entry (f l) (a.bounded l w) ∙ ap g' (a.entry l w);
    }

-- the public account and that of a client moved
accounts_change : (h : History) {f f' : Account → Account} {g g' : ℕ → ℕ} → Moves f g → Moves f' g' → (n : ℕ) → Change h (at_accounts n f f') (at_counts n g g')
accounts_change h a b n = both h (account_change h a 0) (account_change h b (suc n))

-- release
pub release-step : (h : History) → Kept h → (c : ℕ) (i : Guid) (p q : ℕ) → number (editing (release c i p q)) (live h) ≡ 0 → Step (editing (release c i p q)) h
unfolding lived next
release-step h k c i p q a =
    let w = accounts_change h (takes p) (takes q) c in
    stepped (editing (release c i p q)) h k a (change-entries h k (same_guid i) _ _ w) (count_kept h k (same_guid i) _ _ w)

-- a client's drop
pub drop-step : (h : History) → Kept h → (c : ℕ) → number (editing (drop_client c)) (live h) ≡ 0 → Step (editing (drop_client c)) h
unfolding lived next
drop-step h k c a =
    let w = account_change h takes_all (suc c) in
    stepped (editing (drop_client c)) h k a (change-entries h k any_ipid _ _ w) (count_kept h k any_ipid _ _ w)

-- add
pub add_step : (h : History) → Kept h → (c : ℕ) (i : Guid) (p q : ℕ) → number (editing (add c i p q)) (live h) ≡ 0 → Step (editing (add c i p q)) h
unfolding lived next
add_step h k c i p q a =
    let w = accounts_change h (grants p) (grants q) c in
    stepped (editing (add c i p q)) h k a
    (change-entries h k (same_guid i) _ _ w ∙ full-kept (next (editing (add c i p q)) (live h)) (keeps (editing (add c i p q)) (live h) k.sound a))
    (count_kept h k (same_guid i) _ _ w)
