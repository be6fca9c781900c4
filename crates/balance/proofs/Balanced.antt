-- Granted equals held plus taken plus run down, at each call.
use Prim.Native.Nat.{ℕ, suc, ◌+◌, ◌-◌, ◌<◌, ◌≤◌}
use mathlib.Core.Path.{◌≡◌, refl, sym, ap, ◌∙◌}
use mathlib.Core.Bool.{Bool, true, false, cond, not}
use mathlib.Core.List.Memᴰ
use mathlib.Core.List.{List, [], ◌∷◌, ◌++◌, map}
use native.Mathlib.Omega.{arith}
use borrow.Author.Tests.{eqb-true, not-false, ltb-false, ltb-true}
use lib.ListN.{length, get_or, set, length-set}
use lib.Seq.{get_or-set_other}
use lib.Dec.{eqb}
use Rattle.kinds.specs.declared.Guid.{Guid}
use Rattle.kinds.proofs.Refusing.{by-test, passed}
use Rattle.lists.specs.Lists.{keep, some, every, among}
use Rattle.lists.specs.Guids.{same_guid}
use Rattle.lists.proofs.Tests.{and_intro, and_left, and_right}
use Rattle.lists.proofs.Lists.{every-at, keep_all, some-map, every-changed-at, every-kept}
use Rattle.lists.proofs.Elements.{in-every, every_in, in_some, keep-ext-in, some-sole, kept-sole, sole-found}
use Rattle.lists.proofs.Distinct.{eqb-decides, some-same-keep-map, entry-change}
use Rattle.lists.proofs.Guids.{guid-decides}
use Rattle.rules.specs.Entries.{Object, Interface, Entries, fresh, oids, public_of, private_of, at_count, interface_row}
use Rattle.rules.specs.Calls.{Call, starting, looking, editing, Counting, adding, releasing, reset, enter_exporter, remove_exporter, enter_object, enter_interface, add}
use Rattle.rules.specs.Calls.{release, drop_client, count_list, simple_ping, complex_ping, clock, resolve, resolve_filtered, census, members, next_stop, write_snapshot, load_snapshot}
use Rattle.rules.specs.Items.{Item, items_of, item_call}
use Rattle.rules.specs.Sound.{held, heard_within, sound}
use Rattle.rules.specs.OneByOne.{calls_done}
use Rattle.rules.specs.Rules.{interface_of, is_live_interface, no_interface, number, refusals, next, without_objects, at_interfaces, at_interface, drop_empty}
use Rattle.rules.specs.Rules.{counted, item_done, items_done, entered_counts, increased, decreased, emptied, make_set, any_ipid}
use Rattle.rules.proofs.Groups.{grouped, sound-grouped}
use Rattle.rules.proofs.ByRow.{interface_in, interface-live, interface-row, interfaces-distinct, oids-distinct}
use Rattle.rules.proofs.Keeps.{fresh-sound, counted-grouped, keeps}
use Rattle.tally.specs.declared.Tally.{Tally}
use Rattle.balance.specs.Balance.{total, counts_held, held_in, its_object, held_of, held_by, no_tally, taken_by, moved, item_tallied}
use Rattle.balance.specs.Balance.{items_tallied, counting, tallied, after, tally_over, Balanced, Nine, EachBalanced, RunBalanced}
use Rattle.balance.proofs.Sums.{total-set, held-append, held-split, held-set, held_kept}
use Rattle.balance.proofs.Nine.{nine_counts, nine-test, test-nine, item-nine, after-nine}

-- ---- one interface

-- two counts changed, the public one and that of client c
two-counts : (c : ℕ) (f g : ℕ → ℕ) (i : Interface) → length i.counts ≡ 9 → c ≤ 7
    → total (at_count (suc c) g (at_count 0 f i)).counts + (public_of i + private_of c i) ≡ total i.counts + (f (public_of i) + g (private_of c i))
two-counts c f g i n b =
    let ms : List ℕ = set i.counts 0 (f (public_of i)) in
    let l = length-set i.counts 0 (f (public_of i)) in
    let o : get_or ms (suc c) 0 ≡ private_of c i = get_or-set_other i.counts 0 (suc c) (f (public_of i)) 0 (λ e. absurd (omega arith)) in
    let a = total-set i.counts 0 (f (public_of i)) (omega arith) in
    let d = total-set ms (suc c) (g (get_or ms (suc c) 0)) (omega arith) in
    let h = ap g o in
    omega arith

-- ---- the interface of an accepted count

module _ (e : Entries) (s : sound e ≡ true) (n : Nine e) (c : ℕ) (i : Guid) (b : c ≤ 7) (h : is_live_interface e i ≡ true) where
  row_below : interface_row e i < length e.interfaces
  row_below = ltb-true (interface_row e i) (length e.interfaces) (sym (interface-live e i) ∙ h)

  row-nine : length (interface_in e i).counts ≡ 9
  row-nine = eqb-true (length (interface_in e i).counts) 9 (every-at nine_counts e.interfaces no_interface (interface_row e i) row_below (nine-test e n))

  -- two of its counts changed
  row-changed : (f g : ℕ → ℕ)
      → held_in (at_interface i (λ (r : Interface). at_count (suc c) g (at_count 0 f r)) e) + (public_of (interface_of e i) + private_of c (interface_of e i))
      ≡ held_in e + (f (public_of (interface_of e i)) + g (private_of c (interface_of e i)))
  row-changed f g =
      let r : Interface = interface_in e i in
      let x : Interface = at_count (suc c) g (at_count 0 f r) in
      let q =
      ap counts_held
      (entry-change same_guid guid-decides (λ (p : Interface). p.ipid) no_interface i e.interfaces row_below (interfaces-distinct e s)
      (λ (r : Interface). at_count (suc c) g (at_count 0 f r))) in
      let t = held-set e.interfaces no_interface x (interface_row e i) row_below in
      let u = two-counts c f g r row-nine b in
      rw (interface-row e i) (omega arith)

  added : (p q : ℕ) → held_in (at_interface i (increased c p q) e) ≡ held_in e + (p + q)
  added p q = let r = row-changed (λ (n : ℕ). n + p) (λ (n : ℕ). n + q) in omega arith

  taken : (p q : ℕ) → held_in (at_interface i (decreased c p q) e) + taken_by c i p q e ≡ held_in e
  taken p q = let r = row-changed (λ (n : ℕ). n - p) (λ (n : ℕ). n - q) in omega arith

-- ---- what goes

twice : (b : Bool) → not (not b) ≡ b
twice true = refl
twice false = refl

-- interfaces whose objects are there keep them, where objects without interfaces go
served-kept : (os : List Object) (is : List Interface) → every (λ (i : Interface). among (map (λ (o : Object). o.oid) os) i.object) is ≡ true
    → keep (λ (i : Interface). among (map (λ (o : Object). o.oid) (keep (λ (o : Object). some (λ (j : Interface). eqb o.oid j.object) is) os)) i.object) is ≡ is
served-kept os is h =
    keep_all _ is
    (in-every _ is
    (λ i m.
    some-same-keep-map eqb eqb-decides (λ (n : ℕ). some (λ (j : Interface). eqb n j.object) is) (λ (o : Object). o.oid) i.object os
    ∙ and_intro _ _
    (in_some (λ (j : Interface). eqb i.object j.object) m (eqb-decides.self i.object))
    (every_in (λ (i : Interface). among (map (λ (o : Object). o.oid) os) i.object) m h)))

-- interfaces without references count nothing, and all others stay
dropped : (e : Entries) → every (λ (i : Interface). among (oids e) i.object) e.interfaces ≡ true → held_in (drop_empty e) ≡ held_in e
dropped e h =
    ap counts_held
    (served-kept e.objects (keep held e.interfaces) (every-kept (λ (i : Interface). among (oids e) i.object) held e.interfaces h))
    ∙ held_kept e.interfaces

-- after a change of counts
changed-dropped : (e : Entries) → sound e ≡ true → (t : Guid → Bool) (f : Interface → Interface) → ((r : Interface) → (f r).object ≡ r.object)
    → held_in (drop_empty (at_interfaces t f e)) ≡ held_in (at_interfaces t f e)
changed-dropped e s t f k =
    dropped (at_interfaces t f e)
    (every-changed-at (λ (i : Interface). t i.ipid) f (λ (i : Interface). among (oids e) i.object) (λ r h. ap (among (oids e)) (k r) ∙ h) e.interfaces
    (grouped e s).interfaces.named)

-- the private counts of a client
client-emptied : (c : ℕ) → c ≤ 7 → (is : List Interface) → every nine_counts is ≡ true → counts_held (map (λ (r : Interface). emptied c r) is) + held_by c is ≡ counts_held is
unfolding counts_held held_by every
client-emptied c b [] n = omega arith
client-emptied c b (i ∷ is) n =
    let l = eqb-true (length i.counts) 9 (and_left (nine_counts i) (every nine_counts is) n) in
    let r = client-emptied c b is (and_right (nine_counts i) (every nine_counts is) n) in
    let t = total-set i.counts (suc c) 0 (omega arith) in
    omega arith

-- objects go, and their interfaces with them
objects-gone : (e : Entries) → sound e ≡ true → (stays goes : Object → Bool) → ((o : Object) → goes o ≡ not (stays o))
    → held_in (without_objects stays e) + held_of goes e ≡ held_in e
objects-gone e s stays goes k =
    let live : Interface → Bool = λ (i : Interface). among (map (λ (o : Object). o.oid) (keep stays e.objects)) i.object in
    let same : keep (its_object goes e.objects) e.interfaces ≡ keep (λ (i : Interface). not (live i)) e.interfaces =
    keep-ext-in (its_object goes e.objects) (λ (i : Interface). not (live i)) e.interfaces
    (λ i m.
    let x = sole-found eqb eqb-decides (λ (o : Object). o.oid) i.object e.objects (oids-distinct e s)
    (every_in (λ (i : Interface). among (oids e) i.object) m (grouped e s).interfaces.named) in
    some-sole (λ (o : Object). eqb i.object o.oid) x.1 goes
    ∙ k x.0
    ∙ ap not
    (sym
    (some-map (eqb i.object) (λ (o : Object). o.oid) (keep stays e.objects)
    ∙ kept-sole (λ (o : Object). eqb i.object o.oid) x.1 stays))) in
    let a = ap counts_held same in
    let b = held-split live e.interfaces in
    omega arith

-- ---- accepted counts

record Counts (e : Entries) (c : ℕ) (i : Guid) : Type 0 where
  client : c ≤ 7
  live : is_live_interface e i ≡ true

add-accepted : (c : ℕ) (i : Guid) (p q : ℕ) (e : Entries) → number (editing (add c i p q)) e ≡ 0 → Counts e c i
unfolding number refusals
add-accepted c i p q e z =
    let x = passed _ 20 _ (omega arith) z in
    let y = passed _ 6 _ (omega arith) x.1 in
    record { client = ltb-false 7 c x.0; live = not-false (is_live_interface e i) y.0 }

release-accepted : (c : ℕ) (i : Guid) (p q : ℕ) (e : Entries) → number (editing (release c i p q)) e ≡ 0 → Counts e c i
unfolding number refusals
release-accepted c i p q e z =
    let x = passed _ 20 _ (omega arith) z in
    let y = passed _ 6 _ (omega arith) x.1 in
    record { client = ltb-false 7 c x.0; live = not-false (is_live_interface e i) y.0 }

-- references counted
moved-balanced : (w : Counting) (c : ℕ) (i : Guid) (p q : ℕ) (e : Entries) (y : Tally) → sound e ≡ true → Nine e → Counts e c i → Balanced y e
    → Balanced (moved w c i p q e y) (counted w c i p q e)
moved-balanced adding c i p q e y s n a b = let r = added e s n c i a.client a.live p q in omega arith
moved-balanced releasing c i p q e y s n a b =
    let r = taken e s n c i a.client a.live p q in
    let d = changed-dropped e s (same_guid i) (decreased c p q) (λ r. refl) in
    omega arith

item-counts : (w : Counting) (c : ℕ) (t : Item) (e : Entries) → number (item_call w c t) e ≡ 0 → Counts e c t.ipid
item-counts adding c t e z = add-accepted c t.ipid t.public t.private e z
item-counts releasing c t e z = release-accepted c t.ipid t.public t.private e z

-- one item
item-balanced : (w : Counting) (c : ℕ) (t : Item) (e : Entries) (y : Tally) → sound e ≡ true → Nine e → Balanced y e → Balanced (item_tallied w c t e y) (item_done w c t e)
item-balanced w c t e y s n b = go (eqb (number (item_call w c t) e) 0) refl
  where
    go : (a : Bool) → eqb (number (item_call w c t) e) 0 ≡ a
        → Balanced (cond a (moved w c t.ipid t.public t.private e y) y) (cond a (counted w c t.ipid t.public t.private e) e)
    go true h = moved-balanced w c t.ipid t.public t.private e y s n (item-counts w c t e (eqb-true (number (item_call w c t) e) 0 h)) b
    go false h = b

item-sound : (w : Counting) (c : ℕ) (t : Item) (e : Entries) → sound e ≡ true → sound (item_done w c t e) ≡ true
item-sound w c t e s =
    by-test (λ (f : Entries). sound f ≡ true) (eqb (number (item_call w c t) e) 0) (counted w c t.ipid t.public t.private e) e
    (λ h. sound-grouped _ (counted-grouped w c t.ipid t.public t.private e (grouped e s)))
    (λ h. s)

-- items
items-balanced : (w : Counting) (c : ℕ) (ts : List Item) (e : Entries) (y : Tally) → sound e ≡ true → Nine e → Balanced y e
    → Balanced (items_tallied w c ts e y) (items_done w c ts e)
unfolding items_tallied items_done
items-balanced w c [] e y s n b = b
items-balanced w c (t ∷ ts) e y s n b =
    items-balanced w c ts (item_done w c t e) (item_tallied w c t e y) (item-sound w c t e s) (test-nine (item_done w c t e) (item-nine w c t e (nine-test e n)))
    (item-balanced w c t e y s n b)

-- ---- every call

drop-accepted : (c : ℕ) (e : Entries) → number (editing (drop_client c)) e ≡ 0 → c ≤ 7
unfolding number refusals
drop-accepted c e z = ltb-false 7 c (passed _ 20 _ (omega arith) z).0

-- an interface entered
entered-held : (e : Entries) (i : Interface) (n : ℕ) → total i.counts ≡ n → counts_held (e.interfaces ++ (i ∷ [])) ≡ held_in e + n
unfolding counts_held
entered-held e i n t = let r = held-append e.interfaces (i ∷ []) in omega arith

entered-total : (n : ℕ) → total (entered_counts n) ≡ n
unfolding total
entered-total n = omega arith

accepted-balanced : (c : Call) (e : Entries) (y : Tally) → sound e ≡ true → Nine e → number c e ≡ 0 → Balanced y e → Balanced (counting c e y) (next c e)
unfolding counting next counts_held
accepted-balanced (starting (reset t)) e y s n z b = omega arith
accepted-balanced (editing (enter_exporter x u l)) e y s n z b = b
accepted-balanced (editing (remove_exporter x)) e y s n z b =
    let r = objects-gone e s (λ (o : Object). not (eqb x o.exporter)) (λ (o : Object). eqb x o.exporter) (λ o. sym (twice (eqb x o.exporter))) in
    omega arith
accepted-balanced (editing (enter_object o x i iid k np)) e y s n z b =
    let r = entered-held e (record { ipid = i; iid = iid; object = o; counts = entered_counts k }) k (entered-total k) in omega arith
accepted-balanced (editing (enter_interface o i iid k)) e y s n z b =
    let r = entered-held e (record { ipid = i; iid = iid; object = o; counts = entered_counts k }) k (entered-total k) in omega arith
accepted-balanced (editing (add c i p q)) e y s n z b = moved-balanced adding c i p q e y s n (add-accepted c i p q e z) b
accepted-balanced (editing (release c i p q)) e y s n z b = moved-balanced releasing c i p q e y s n (release-accepted c i p q e z) b
accepted-balanced (editing (drop_client c)) e y s n z b =
    let d = changed-dropped e s any_ipid (emptied c) (λ r. refl) in
    let r = client-emptied c (drop-accepted c e z) e.interfaces (nine-test e n) in
    omega arith
accepted-balanced (count_list w c t l) e y s n z b = items-balanced w c (items_of t) e y s n b
accepted-balanced (editing (simple_ping k)) e y s n z b = b
accepted-balanced (editing (complex_ping k q adds dels)) e y s n z b = by-test (λ (f : Entries). Balanced y f) (eqb k 0) (make_set e) e (λ h. b) (λ h. b)
accepted-balanced (editing (clock t)) e y s n z b =
    let r = objects-gone e s (heard_within t) (λ (o : Object). not (heard_within t o)) (λ o. refl) in
    omega arith
accepted-balanced (looking (resolve x l)) e y s n z b = b
accepted-balanced (looking (resolve_filtered x ps l)) e y s n z b = b
accepted-balanced (looking census) e y s n z b = b
accepted-balanced (looking (members k)) e y s n z b = b
accepted-balanced (looking (next_stop r)) e y s n z b = b
accepted-balanced (looking (write_snapshot l)) e y s n z b = b
accepted-balanced (starting (load_snapshot t)) e y s n z b = omega arith

pub each-balanced : EachBalanced
each-balanced c e y s n b = go (eqb (number c e) 0) refl
  where
    go : (a : Bool) → eqb (number c e) 0 ≡ a → Balanced (cond a (counting c e y) y) (cond a (next c e) e)
    go true h = accepted-balanced c e y s n (eqb-true (number c e) 0 h) b
    go false h = b

pub after-sound : (c : Call) (e : Entries) → sound e ≡ true → sound (after c e) ≡ true
after-sound c e s = by-test (λ (f : Entries). sound f ≡ true) (eqb (number c e) 0) (next c e) e (λ h. keeps c e s (eqb-true (number c e) 0 h)) (λ h. s)

-- a run
calls-balanced : (cs : List Call) (e : Entries) (y : Tally) → sound e ≡ true → Nine e → Balanced y e → Balanced (tally_over cs e y) (calls_done cs e)
unfolding tally_over calls_done
calls-balanced [] e y s n b = b
calls-balanced (c ∷ cs) e y s n b =
    calls-balanced cs (after c e) (tallied c e y) (after-sound c e s) (test-nine (after c e) (after-nine c e (nine-test e n))) (each-balanced c e y s n b)

pub run-balanced : RunBalanced
unfolding counts_held
run-balanced cs t = calls-balanced cs (fresh t) no_tally (fresh-sound t) (λ i m. absurd (Memᴰ.not-nil m)) (omega arith)
