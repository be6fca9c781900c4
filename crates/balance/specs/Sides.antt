-- A tally by the table's sum before and after a call: each call moves one number alone. What code goes by.
use Rattle.std.specs.Prelude.{ℕ, ◌-◌, ◌≡◌, Bool, true, cond, eqb}
use Rattle.rules.specs.Entries.{Entries}
use Rattle.rules.specs.Calls.{Call, starting, looking, editing, adding, releasing, reset, enter_exporter, remove_exporter, enter_object, enter_interface, add, release}
use Rattle.rules.specs.Calls.{drop_client, count_list, simple_ping, complex_ping, clock, resolve, resolve_filtered, census, members, next_stop, write_snapshot, load_snapshot}
use Rattle.rules.specs.Sound.{sound}
use Rattle.rules.specs.Rules.{number}
use Rattle.tally.specs.declared.Tally.{Tally}
use Rattle.tally.specs.Tallies.{raised}
use Rattle.balance.specs.Balance.{held_in, tallied, after, Balanced, Nine}

-- the number that a call moves; beginning is for a reset and a load, where they are accepted
pub data Side : Type 0 where
  granting : Side
  taking : Side
  running : Side
  beginning : Side

abbrev pub side_of : Call → Side
side_of (starting (reset t)) = beginning
side_of (editing (enter_exporter x u b)) = granting
side_of (editing (remove_exporter x)) = running
side_of (editing (enter_object o x i iid n np)) = granting
side_of (editing (enter_interface o i iid n)) = granting
side_of (editing (add c i p q)) = granting
side_of (editing (release c i p q)) = taking
side_of (editing (drop_client c)) = running
side_of (count_list adding c s b) = granting
side_of (count_list releasing c s b) = taking
side_of (editing (simple_ping s)) = granting
side_of (editing (complex_ping s n adds dels)) = granting
side_of (editing (clock t)) = running
side_of (looking (resolve x buffer)) = granting
side_of (looking (resolve_filtered x protocols buffer)) = granting
side_of (looking census) = granting
side_of (looking (members s)) = granting
side_of (looking (next_stop r)) = granting
side_of (looking (write_snapshot buffer)) = granting
side_of (starting (load_snapshot s)) = beginning

-- the tally after a call, by whether it was accepted and the table's sums before and after it
abbrev pub moved : Side → Bool → ℕ → ℕ → Tally → Tally
moved granting ok before now y = raised y (now - before) 0 0
moved taking ok before now y = raised y 0 (before - now) 0
moved running ok before now y = raised y 0 0 (before - now)
moved beginning ok before now y = cond ok (record { granted = now; taken = 0; rundown = 0 }) y

-- of a tally that balances
abbrev pub BySums : Type 0
BySums =
    (c : Call) (e : Entries) (y : Tally)
    → sound e ≡ true
    → Nine e
    → Balanced y e
    → tallied c e y ≡ moved (side_of c) (eqb (number c e) 0) (held_in e) (held_in (after c e)) y
