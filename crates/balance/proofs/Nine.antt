-- Every call leaves interfaces with nine counts.
use Prim.Native.Nat.{ℕ, suc, ◌+◌, ◌-◌}
use mathlib.Core.Path.{◌≡◌, refl, ap, ◌∙◌}
use mathlib.Core.Bool.{Bool, true}
use mathlib.Core.List.{List, [], ◌∷◌, ◌++◌}
use borrow.Author.Tests.{eqb-true, eq-eqb}
use lib.ListN.{length, length-set}
use lib.Dec.{eqb}
use Rattle.kinds.specs.declared.Guid.{Guid}
use Rattle.kinds.proofs.Refusing.{by-test}
use Rattle.lists.specs.Lists.{keep, every}
use Rattle.lists.specs.Guids.{same_guid}
use Rattle.lists.proofs.Tests.{and_intro}
use Rattle.lists.proofs.Lists.{every-nil, every-kept, every-changed-at, every-snoc}
use Rattle.lists.proofs.Elements.{in-every, every_in}
use Rattle.rules.specs.Entries.{Interface, Entries, at_count, at_counts}
use Rattle.rules.specs.Calls.{Call, starting, looking, editing, Counting, adding, releasing, reset, enter_exporter, remove_exporter, enter_object, enter_interface, add}
use Rattle.rules.specs.Calls.{release, drop_client, count_list, simple_ping, complex_ping, clock, resolve, resolve_filtered, census, members, next_stop, write_snapshot, load_snapshot}
use Rattle.rules.specs.Items.{Item, items_of, item_call}
use Rattle.rules.specs.Sound.{held}
use Rattle.rules.specs.Rules.{number, next, at_interfaces, drop_empty, counted, item_done, items_done, entered_counts, increased, decreased, emptied, make_set, any_ipid}
use Rattle.rules.proofs.Keeps.{loaded-snapshot}
use Rattle.rules.proofs.Swapping.{snapshot-fits}
use Rattle.balance.specs.Balance.{Nine, after}

abbrev pub nine_counts : Interface → Bool
nine_counts i = eqb (length i.counts) 9

-- the same as a test
abbrev pub all_nine : Entries → Type 0
all_nine e = every nine_counts e.interfaces ≡ true

pub nine-test : (e : Entries) → Nine e → all_nine e
nine-test e h = in-every nine_counts e.interfaces (λ i m. eq-eqb (length i.counts) 9 (h i m))

pub test-nine : (e : Entries) → all_nine e → Nine e
test-nine e h i m = eqb-true (length i.counts) 9 (every_in nine_counts m h)

-- a changed count is a count
pub set-nine : (k : ℕ) (f : ℕ → ℕ) (i : Interface) → nine_counts i ≡ true → nine_counts (at_count k f i) ≡ true
set-nine k f i h = ap (λ (n : ℕ). eqb n 9) (length-set i.counts k _) ∙ h

counts-nine : (c : ℕ) (f g : ℕ → ℕ) (i : Interface) → nine_counts i ≡ true → nine_counts (at_counts c f g i) ≡ true
counts-nine c f g i h = set-nine (suc c) g (at_count 0 f i) (set-nine 0 f i h)

-- what goes leaves the others
drop-nine : (e : Entries) → all_nine e → all_nine (drop_empty e)
drop-nine e h = every-kept nine_counts _ (keep held e.interfaces) (every-kept nine_counts held e.interfaces h)

changed-nine : (t : Guid → Bool) (f : Interface → Interface) → ((i : Interface) → nine_counts i ≡ true → nine_counts (f i) ≡ true) → (e : Entries) → all_nine e
    → all_nine (at_interfaces t f e)
changed-nine t f k e h = every-changed-at (λ (i : Interface). t i.ipid) f nine_counts k e.interfaces h

pub counted-nine : (w : Counting) (c : ℕ) (i : Guid) (p q : ℕ) (e : Entries) → all_nine e → all_nine (counted w c i p q e)
counted-nine adding c i p q e h = changed-nine (same_guid i) (increased c p q) (counts-nine c (λ (n : ℕ). n + p) (λ (n : ℕ). n + q)) e h
counted-nine releasing c i p q e h =
    drop-nine (at_interfaces (same_guid i) (decreased c p q) e)
    (changed-nine (same_guid i) (decreased c p q) (counts-nine c (λ (n : ℕ). n - p) (λ (n : ℕ). n - q)) e h)

pub item-nine : (w : Counting) (c : ℕ) (t : Item) (e : Entries) → all_nine e → all_nine (item_done w c t e)
item-nine w c t e h = by-test all_nine (eqb (number (item_call w c t) e) 0) _ e (λ a. counted-nine w c t.ipid t.public t.private e h) (λ a. h)

items-nine : (w : Counting) (c : ℕ) (ts : List Item) (e : Entries) → all_nine e → all_nine (items_done w c ts e)
unfolding items_done
items-nine w c [] e h = h
items-nine w c (t ∷ ts) e h = items-nine w c ts (item_done w c t e) (item-nine w c t e h)

-- an interface is entered with nine
entered-nine : (e : Entries) (i : Interface) → nine_counts i ≡ true → all_nine e → every nine_counts (e.interfaces ++ (i ∷ [])) ≡ true
entered-nine e i n h = every-snoc nine_counts e.interfaces i ∙ and_intro _ _ h n

next-nine : (c : Call) (e : Entries) → number c e ≡ 0 → all_nine e → all_nine (next c e)
unfolding next
next-nine (starting (reset t)) e z h = every-nil nine_counts
next-nine (editing (enter_exporter x u b)) e z h = h
next-nine (editing (remove_exporter x)) e z h = every-kept nine_counts _ e.interfaces h
next-nine (editing (enter_object o x i iid n np)) e z h = entered-nine e (record { ipid = i; iid = iid; object = o; counts = entered_counts n }) refl h
next-nine (editing (enter_interface o i iid n)) e z h = entered-nine e (record { ipid = i; iid = iid; object = o; counts = entered_counts n }) refl h
next-nine (editing (add c i p q)) e z h = counted-nine adding c i p q e h
next-nine (editing (release c i p q)) e z h = counted-nine releasing c i p q e h
next-nine (editing (drop_client c)) e z h =
    drop-nine (at_interfaces any_ipid (emptied c) e) (changed-nine any_ipid (emptied c) (set-nine (suc c) (λ (n : ℕ). 0)) e h)
next-nine (count_list w c s b) e z h = items-nine w c (items_of s) e h
next-nine (editing (simple_ping s)) e z h = h
next-nine (editing (complex_ping s n adds dels)) e z h = by-test (λ (f : Entries). all_nine f) (eqb s 0) (make_set e) e (λ a. h) (λ a. h)
next-nine (editing (clock t)) e z h = every-kept nine_counts _ e.interfaces h
next-nine (looking (resolve x buffer)) e z h = h
next-nine (looking (resolve_filtered x protocols buffer)) e z h = h
next-nine (looking census) e z h = h
next-nine (looking (members s)) e z h = h
next-nine (looking (next_stop r)) e z h = h
next-nine (looking (write_snapshot buffer)) e z h = h
next-nine (starting (load_snapshot s)) e z h =
    in-every nine_counts _ (λ i m. eq-eqb (length i.counts) 9 ((snapshot-fits s (loaded-snapshot s e z)).interfaces i m).nine)

pub after-nine : (c : Call) (e : Entries) → all_nine e → all_nine (after c e)
after-nine c e h = by-test all_nine (eqb (number c e) 0) (next c e) e (λ t. next-nine c e (eqb-true (number c e) 0 t) h) (λ f. h)
