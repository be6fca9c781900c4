-- No number of a tally passes 2^49 for each call.
use Prim.Native.Nat.{ℕ, ◌+◌, ◌*◌, ◌^◌, ◌<◌, ◌≤◌}
use mathlib.Core.Path.{◌≡◌, refl, ap}
use mathlib.Core.List.Memᴰ
use mathlib.Core.List.{List, [], ◌∷◌}
use native.Mathlib.Omega.{arith}
use borrow.Author.Tests.{eqb-true, leb-true, ltb-false}
use lib.ListN.{length}
use lib.Dec.{eqb}
use Rattle.kinds.proofs.Refusing.{by-test, passed}
use Rattle.fields.specs.Fields.{Bytes, field}
use Rattle.fields.proofs.Fields.{field_bound}
use Rattle.lists.proofs.Tests.{holding-head, holding-tail}
use Rattle.lists.proofs.Lists.{length-tabulate}
use Rattle.lists.proofs.Elements.{tabulate-in}
use Rattle.rules.specs.Entries.{Entries, fresh}
use Rattle.rules.specs.Calls.{Call, starting, looking, editing, Counting, adding, releasing, reset, enter_exporter, remove_exporter, enter_object, enter_interface, add}
use Rattle.rules.specs.Calls.{release, drop_client, count_list, simple_ping, complex_ping, clock, resolve, resolve_filtered, census, members, next_stop, write_snapshot, load_snapshot}
use Rattle.rules.specs.Items.{Item, item_at, item_count, items_of, item_call}
use Rattle.rules.specs.Snapshot.{entries_of, placed}
use Rattle.rules.specs.Rules.{number, refusals, item_done}
use Rattle.rules.specs.Swapping.{Each}
use Rattle.rules.proofs.Keeps.{loaded-snapshot}
use Rattle.rules.proofs.Swapping.{snapshot-fits}
use Rattle.recording.specs.Statements.{Given}
use Rattle.tally.specs.declared.Tally.{Tally}
use Rattle.balance.specs.Balance.{held_in, no_tally, item_tallied, items_tallied, counting, tallied, after, tally_over}
use Rattle.balance.proofs.Sums.{held_small}
use Rattle.balance.proofs.Balanced.{run-balanced}
use Rattle.replay_rules.specs.Statements.{TallySmall, TalliesFit}

-- ---- a snapshot's counts

loaded-small : (s : List ℕ) (e : Entries) → number (starting (load_snapshot s)) e ≡ 0 → held_in (entries_of s) ≤ 2 ^ 44
unfolding placed
loaded-small s e z =
    let f = snapshot-fits s (loaded-snapshot s e z) in
    let p = holding-head _ _ (holding-tail _ _ (holding-tail _ _ f.places)) in
    let l = leb-true (length (entries_of s).interfaces) 256 p in
    let h = held_small (entries_of s).interfaces (λ i m. let k = f.interfaces i m in (k.nine, k.counts)) in
    omega arith

-- ---- items

abbrev Small : Item → Type 0
Small t = (t.public < 2 ^ 32) × (t.private < 2 ^ 32)

moved-small : (w : Counting) (c : ℕ) (t : Item) (e : Entries) (y : Tally) → Small t → (item_tallied w c t e y).granted ≤ y.granted + 2 ^ 33
moved-small adding c t e y s =
    by-test (λ (z : Tally). z.granted ≤ y.granted + 2 ^ 33) (eqb (number (item_call adding c t) e) 0) _ y (λ h. let a = s.0 in let b = s.1 in omega arith) (λ h. omega arith)
moved-small releasing c t e y s =
    by-test (λ (z : Tally). z.granted ≤ y.granted + 2 ^ 33) (eqb (number (item_call releasing c t) e) 0) _ y (λ h. omega arith) (λ h. omega arith)

items-small : (w : Counting) (c : ℕ) (ts : List Item) (e : Entries) (y : Tally) → Each Small ts → (items_tallied w c ts e y).granted ≤ y.granted + length ts * 2 ^ 33
unfolding items_tallied
items-small w c [] e y s = omega arith
items-small w c (t ∷ ts) e y s =
    let a = moved-small w c t e y (s t (Memᴰ.head refl)) in
    let r = items-small w c ts (item_done w c t e) (item_tallied w c t e y) (λ k m. s k (Memᴰ.tail m)) in
    omega arith

-- the items of bytes
item-small : (s : List ℕ) → Bytes s → Each Small (items_of s)
unfolding items_of
item-small s b t m =
    let r = tabulate-in (item_count s) (item_at s) m in
    let k : ℕ = r.0 in
    let p = field_bound s (24 * k + 16) 4 b in
    let q = field_bound s (24 * k + 20) 4 b in
    let i : t ≡ item_at s k = r.2 in
    let x : t.public ≡ field s (24 * k + 16) 4 = ap (λ (v : Item). v.public) i in
    let y : t.private ≡ field s (24 * k + 20) 4 = ap (λ (v : Item). v.private) i in
    (omega arith, omega arith)

item-number : (s : List ℕ) → length (items_of s) ≡ item_count s
unfolding items_of
item-number s = length-tabulate (item_count s) (item_at s)

few-items : (w : Counting) (c : ℕ) (s b : List ℕ) (e : Entries) → number (count_list w c s b) e ≡ 0 → length (items_of s) ≤ 65535
unfolding number refusals
few-items w c s b e z =
    let x = passed _ 20 _ (omega arith) z in
    let y = passed _ 13 _ (omega arith) x.1 in
    let l = ltb-false 65535 (item_count s) (passed _ 10 _ (omega arith) y.1).0 in
    let n = item-number s in
    omega arith

-- ---- one call

accepted-small : (c : Call) (e : Entries) (y : Tally) → Given c → number c e ≡ 0 → (counting c e y).granted ≤ y.granted + 2 ^ 49
unfolding counting
accepted-small (starting (reset t)) e y g z = omega arith
accepted-small (editing (enter_exporter x u b)) e y g z = omega arith
accepted-small (editing (remove_exporter x)) e y g z = omega arith
accepted-small (editing (enter_object o x i iid n np)) e y g z = let a = g.4 in omega arith
accepted-small (editing (enter_interface o i iid n)) e y g z = let a = g.3 in omega arith
accepted-small (editing (add c i p q)) e y g z = let a = g.2 in let b = g.3 in omega arith
accepted-small (editing (release c i p q)) e y g z = omega arith
accepted-small (editing (drop_client c)) e y g z = omega arith
accepted-small (count_list w c s b) e y g z =
    let a = items-small w c (items_of s) e y (item-small s g.1.0) in
    let l = few-items w c s b e z in
    omega arith
accepted-small (editing (simple_ping s)) e y g z = omega arith
accepted-small (editing (complex_ping s n adds dels)) e y g z = omega arith
accepted-small (editing (clock t)) e y g z = omega arith
accepted-small (looking (resolve x b)) e y g z = omega arith
accepted-small (looking (resolve_filtered x ps b)) e y g z = omega arith
accepted-small (looking census) e y g z = omega arith
accepted-small (looking (members s)) e y g z = omega arith
accepted-small (looking (next_stop r)) e y g z = omega arith
accepted-small (looking (write_snapshot b)) e y g z = omega arith
accepted-small (starting (load_snapshot s)) e y g z = let h = loaded-small s e z in omega arith

pub call-small : (c : Call) (e : Entries) (y : Tally) → Given c → (tallied c e y).granted ≤ y.granted + 2 ^ 49
call-small c e y g =
    by-test (λ (z : Tally). z.granted ≤ y.granted + 2 ^ 49) (eqb (number c e) 0) (counting c e y) y
    (λ h. accepted-small c e y g (eqb-true (number c e) 0 h))
    (λ h. omega arith)

-- ---- calls in a row

pub calls-small : (cs : List Call) (e : Entries) (y : Tally) → Each Given cs → (tally_over cs e y).granted ≤ y.granted + length cs * 2 ^ 49
unfolding tally_over
calls-small [] e y g = omega arith
calls-small (c ∷ cs) e y g =
    let a = call-small c e y (g c (Memᴰ.head refl)) in
    let r = calls-small cs (after c e) (tallied c e y) (λ d m. g d (Memᴰ.tail m)) in
    omega arith

pub tally-small : TallySmall
tally-small cs g = let r = calls-small cs (fresh 0) no_tally g in omega arith

pub tallies-fit : TalliesFit
tallies-fit cs g h =
    let a = tally-small cs g in
    let b = run-balanced cs 0 in
    record { granted = omega arith; taken = omega arith; rundown = omega arith }
