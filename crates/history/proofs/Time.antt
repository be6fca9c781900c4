-- Only the clock call moves time.
use Prim.Native.Nat.{ℕ}
use mathlib.Core.Path.{◌≡◌, refl, ◌∙◌}
use mathlib.Core.Bool.{Bool, true, false, cond, true≢false}
use mathlib.Core.List.{List, [], ◌∷◌}
use lib.Dec.{eqb}
use Rattle.rules.specs.Entries.{Entries}
use Rattle.rules.specs.Calls.{starting, looking, editing, Counting, adding, releasing, count_list, enter_exporter, remove_exporter, enter_object, enter_interface, add, release, drop_client}
use Rattle.rules.specs.Calls.{simple_ping, complex_ping, clock}
use Rattle.rules.specs.Items.{Item, items_of, item_call}
use Rattle.rules.specs.Rules.{number, next, counted, item_done, items_done, make_set}
use Rattle.history.specs.Time.{TimeStands}

either : (b : Bool) (e f : Entries) → f.clock ≡ e.clock → (cond b f e).clock ≡ e.clock
either true e f h = h
either false e f h = refl

counted-stands : (w : Counting) (c : ℕ) (t : Item) (e : Entries) → (counted w c t.ipid t.public t.private e).clock ≡ e.clock
counted-stands adding c t e = refl
counted-stands releasing c t e = refl

items-stand : (w : Counting) (c : ℕ) (ts : List Item) (e : Entries) → (items_done w c ts e).clock ≡ e.clock
unfolding items_done
items-stand w c [] e = refl
items-stand w c (t ∷ ts) e =
    items-stand w c ts (item_done w c t e)
    ∙ either (eqb (number (item_call w c t) e) 0) e (counted w c t.ipid t.public t.private e) (counted-stands w c t e)

pub time-stands : TimeStands
unfolding next
time-stands (starting s) e h = absurd (true≢false h)
time-stands (looking l) e h = refl
time-stands (count_list w c s b) e h = items-stand w c (items_of s) e
time-stands (editing (enter_exporter x u b)) e h = refl
time-stands (editing (remove_exporter x)) e h = refl
time-stands (editing (enter_object o x i iid n np)) e h = refl
time-stands (editing (enter_interface o i iid n)) e h = refl
time-stands (editing (add c i p q)) e h = refl
time-stands (editing (release c i p q)) e h = refl
time-stands (editing (drop_client c)) e h = refl
time-stands (editing (simple_ping s)) e h = refl
time-stands (editing (complex_ping s n adds dels)) e h = either (eqb s 0) e (make_set e) refl
time-stands (editing (clock t)) e h = absurd (true≢false h)
