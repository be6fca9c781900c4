-- The tally of a replay (document 02, request 11): what was granted, taken and run down since the last accepted reset or load. By a
-- call's arguments and the entries before it, never by a difference of sums.
use Rattle.std.specs.Prelude.{ℕ, ◌+◌, min, ◌≡◌, Bool, true, cond, not, ◌&&◌, List, [], ◌∷◌, length, eqb}
use Rattle.kinds.specs.declared.Guid.{Guid}
use Rattle.lists.specs.Lists.{keep, some}
use Rattle.rules.specs.Entries.{Object, Interface, Entries, fresh, public_of, private_of}
use Rattle.rules.specs.Calls.{Call, starting, looking, editing, Counting, adding, releasing, reset, enter_exporter, remove_exporter, enter_object, enter_interface, add}
use Rattle.rules.specs.Calls.{release, drop_client, count_list, simple_ping, complex_ping, clock, resolve, resolve_filtered, census, members, next_stop, write_snapshot, load_snapshot}
use Rattle.rules.specs.Items.{Item, items_of, item_call}
use Rattle.rules.specs.Sound.{sound, heard_within}
use Rattle.rules.specs.Snapshot.{entries_of}
use Rattle.rules.specs.Rules.{interface_of, number, next, item_done}
use Rattle.rules.specs.OneByOne.{calls_done}
use Rattle.rules.specs.Swapping.{Each}
use Rattle.tally.specs.declared.Tally.{Tally}
use Rattle.tally.specs.Tallies.{raised}

-- ---- what is held

unfoldable pub total : List ℕ → ℕ
total [] = 0
total (n ∷ ns) = n + total ns

-- the counts of interfaces, summed
unfoldable pub counts_held : List Interface → ℕ
counts_held [] = 0
counts_held (i ∷ is) = total i.counts + counts_held is

-- held: the table's sum
abbrev pub held_in : Entries → ℕ
held_in e = counts_held e.interfaces

-- the interface's object is there and passes a test
abbrev pub its_object : (Object → Bool) → List Object → Interface → Bool
its_object goes os i = some (λ (o : Object). eqb i.object o.oid && goes o) os

-- the counts of the interfaces whose object passes a test
abbrev pub held_of : (Object → Bool) → Entries → ℕ
held_of goes e = counts_held (keep (its_object goes e.objects) e.interfaces)

-- the private counts of client c
unfoldable pub held_by : ℕ → List Interface → ℕ
held_by c [] = 0
held_by c (i ∷ is) = private_of c i + held_by c is

-- ---- the tally

abbrev pub no_tally : Tally
no_tally = record { granted = 0; taken = 0; rundown = 0 }

-- what a release takes: of each count the smaller of the asked number and itself
abbrev pub taken_by : ℕ → Guid → ℕ → ℕ → Entries → ℕ
taken_by c i p q e = min p (public_of (interface_of e i)) + min q (private_of c (interface_of e i))

-- after references were counted, one way or the other
abbrev pub moved : Counting → ℕ → Guid → ℕ → ℕ → Entries → Tally → Tally
moved adding c i p q e y = raised y (p + q) 0 0
moved releasing c i p q e y = raised y 0 (taken_by c i p q e) 0

-- items one by one from the left; one that is refused counts nothing
abbrev pub item_tallied : Counting → ℕ → Item → Entries → Tally → Tally
item_tallied w c t e y = cond (eqb (number (item_call w c t) e) 0) (moved w c t.ipid t.public t.private e y) y

unfoldable pub items_tallied : Counting → ℕ → List Item → Entries → Tally → Tally
items_tallied w c [] e y = y
items_tallied w c (t ∷ ts) e y = items_tallied w c ts (item_done w c t e) (item_tallied w c t e y)

-- after an accepted call on entries e
unfoldable pub counting : Call → Entries → Tally → Tally
-- a recorded reset starts the tally at zero
counting (starting (reset t)) e y = no_tally
counting (editing (enter_exporter x u b)) e y = y
-- what an exporter's removal takes of the held counts
counting (editing (remove_exporter x)) e y = raised y 0 0 (held_of (λ (o : Object). eqb x o.exporter) e)
counting (editing (enter_object o x i iid n np)) e y = raised y n 0 0
counting (editing (enter_interface o i iid n)) e y = raised y n 0 0
counting (editing (add c i p q)) e y = moved adding c i p q e y
counting (editing (release c i p q)) e y = moved releasing c i p q e y
-- what a client's drop takes (in demand 3's history it counts as taken; here as run down)
counting (editing (drop_client c)) e y = raised y 0 0 (held_by c e.interfaces)
counting (count_list w c s b) e y = items_tallied w c (items_of s) e y
counting (editing (simple_ping s)) e y = y
counting (editing (complex_ping s n adds dels)) e y = y
-- what a clock takes
counting (editing (clock t)) e y = raised y 0 0 (held_of (λ (o : Object). not (heard_within t o)) e)
counting (looking (resolve x buffer)) e y = y
counting (looking (resolve_filtered x protocols buffer)) e y = y
counting (looking census) e y = y
counting (looking (members s)) e y = y
counting (looking (next_stop r)) e y = y
counting (looking (write_snapshot buffer)) e y = y
-- an accepted load starts it at the snapshot's counts as granted
counting (starting (load_snapshot s)) e y = record { granted = held_in (entries_of s); taken = 0; rundown = 0 }

-- after any call: one that is refused counts nothing
abbrev pub tallied : Call → Entries → Tally → Tally
tallied c e y = cond (eqb (number c e) 0) (counting c e y) y

-- the entries after any call
abbrev pub after : Call → Entries → Entries
after c e = cond (eqb (number c e) 0) (next c e) e

-- after calls in a row
unfoldable pub tally_over : List Call → Entries → Tally → Tally
tally_over [] e y = y
tally_over (c ∷ cs) e y = tally_over cs (after c e) (tallied c e y)

-- ---- statements

-- granted equals held plus taken plus run down
abbrev pub Balanced : Tally → Entries → Type 0
Balanced y e = y.granted ≡ held_in e + y.taken + y.rundown

-- every interface has nine counts, as those of every table have
abbrev pub Nine : Entries → Type 0
Nine e = Each (λ (i : Interface). length i.counts ≡ 9) e.interfaces

-- at each record: balanced before a call, balanced after it
abbrev pub EachBalanced : Type 0
EachBalanced = (c : Call) (e : Entries) (y : Tally) → sound e ≡ true → Nine e → Balanced y e → Balanced (tallied c e y) (after c e)

-- after any run from a reset
abbrev pub RunBalanced : Type 0
RunBalanced = (cs : List Call) (t : ℕ) → Balanced (tally_over cs (fresh t) no_tally) (calls_done cs (fresh t))
