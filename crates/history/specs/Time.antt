-- Only the clock call moves time (document 01, "The calls"). A statement only.
use Rattle.std.specs.Prelude.{◌≡◌, Bool, true, false}
use Rattle.rules.specs.Entries.{Entries}
use Rattle.rules.specs.Calls.{Call, starting, looking, editing, count_list, enter_exporter, remove_exporter, enter_object, enter_interface, add, release, drop_client, simple_ping, complex_ping, clock}
use Rattle.rules.specs.Rules.{next}

-- the clock call, and a reset or a load, which start the table anew
abbrev pub moves_time : Call → Bool
moves_time (starting s) = true
moves_time (looking l) = false
moves_time (count_list w c s b) = false
moves_time (editing (enter_exporter x u b)) = false
moves_time (editing (remove_exporter x)) = false
moves_time (editing (enter_object o x i iid n np)) = false
moves_time (editing (enter_interface o i iid n)) = false
moves_time (editing (add c i p q)) = false
moves_time (editing (release c i p q)) = false
moves_time (editing (drop_client c)) = false
moves_time (editing (simple_ping s)) = false
moves_time (editing (complex_ping s n adds dels)) = false
moves_time (editing (clock t)) = true

abbrev pub TimeStands : Type 0
TimeStands = (c : Call) (e : Entries) → moves_time c ≡ false → (next c e).clock ≡ e.clock
