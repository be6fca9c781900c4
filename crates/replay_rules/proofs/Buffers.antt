-- The length of an output buffer is all that a recording has to tell of it.
use Prim.Native.Nat.{ℕ}
use mathlib.Core.Path.{◌≡◌, refl}
use mathlib.Core.Bool.{cond}
use mathlib.Core.List.{List}
use lib.ListN.{length, length-replicate}
use lib.Dec.{eqb}
use Rattle.fields.specs.Fields.{zeros}
use Rattle.rules.specs.Entries.{Entries}
use Rattle.rules.specs.Calls.{Call, starting, looking, editing, reset, enter_exporter, remove_exporter, enter_object, enter_interface, add, release}
use Rattle.rules.specs.Calls.{drop_client, count_list, simple_ping, complex_ping, clock, resolve, resolve_filtered, census, members, next_stop, write_snapshot, load_snapshot}
use Rattle.rules.specs.Rules.{number, refusals, next, results}
use Rattle.recording.specs.Statements.{by_length}
use Rattle.balance.specs.Balance.{after}
use Rattle.replay_step.proofs.Alike.{Alike, alike-answer}
use Rattle.replay_rules.specs.Statements.{LengthIsEnough}

pub alike-after : (c d : Call) (e : Entries) → Alike c d e → after c e ≡ after d e
alike-after c d e a u = cond (eqb (a.number u) 0) (a.next u) e

-- a length, and zeros of that length
zeros-length : (b : List ℕ) → length (zeros (length b)) ≡ length b
zeros-length b = length-replicate (length b) 0

-- of the calls with a buffer
buffer-alike : (c : Call) (e : Entries) → number (by_length c) e ≡ number c e
unfolding number refusals
buffer-alike (starting (reset t)) e = refl
buffer-alike (editing (enter_exporter x u b)) e = refl
buffer-alike (editing (remove_exporter x)) e = refl
buffer-alike (editing (enter_object o x i iid n np)) e = refl
buffer-alike (editing (enter_interface o i iid n)) e = refl
buffer-alike (editing (add c i p q)) e = refl
buffer-alike (editing (release c i p q)) e = refl
buffer-alike (editing (drop_client c)) e = refl
buffer-alike (count_list w c s b) e = simp zeros-length
buffer-alike (editing (simple_ping s)) e = refl
buffer-alike (editing (complex_ping s n adds dels)) e = refl
buffer-alike (editing (clock t)) e = refl
buffer-alike (looking (resolve x b)) e = simp zeros-length
buffer-alike (looking (resolve_filtered x ps b)) e = simp zeros-length
buffer-alike (looking census) e = refl
buffer-alike (looking (members s)) e = refl
buffer-alike (looking (next_stop r)) e = refl
buffer-alike (looking (write_snapshot b)) e = simp zeros-length
buffer-alike (starting (load_snapshot s)) e = refl

alike : (c : Call) (e : Entries) → Alike (by_length c) c e
unfolding results next
alike (starting (reset t)) e = record { number = refl; count = refl; values = refl; part = refl; front = refl; next = refl }
alike (editing (enter_exporter x u b)) e = record { number = refl; count = refl; values = refl; part = refl; front = refl; next = refl }
alike (editing (remove_exporter x)) e = record { number = refl; count = refl; values = refl; part = refl; front = refl; next = refl }
alike (editing (enter_object o x i iid n np)) e = record { number = refl; count = refl; values = refl; part = refl; front = refl; next = refl }
alike (editing (enter_interface o i iid n)) e = record { number = refl; count = refl; values = refl; part = refl; front = refl; next = refl }
alike (editing (add c i p q)) e = record { number = refl; count = refl; values = refl; part = refl; front = refl; next = refl }
alike (editing (release c i p q)) e = record { number = refl; count = refl; values = refl; part = refl; front = refl; next = refl }
alike (editing (drop_client c)) e = record { number = refl; count = refl; values = refl; part = refl; front = refl; next = refl }
alike (count_list w c s b) e = record { number = buffer-alike (count_list w c s b) e; count = refl; values = refl; part = refl; front = refl; next = refl }
alike (editing (simple_ping s)) e = record { number = refl; count = refl; values = refl; part = refl; front = refl; next = refl }
alike (editing (complex_ping s n adds dels)) e = record { number = refl; count = refl; values = refl; part = refl; front = refl; next = refl }
alike (editing (clock t)) e = record { number = refl; count = refl; values = refl; part = refl; front = refl; next = refl }
alike (looking (resolve x b)) e = record { number = buffer-alike (looking (resolve x b)) e; count = refl; values = refl; part = refl; front = refl; next = refl }
alike (looking (resolve_filtered x ps b)) e = record { number = buffer-alike (looking (resolve_filtered x ps b)) e; count = refl; values = refl; part = refl; front = refl; next = refl }
alike (looking census) e = record { number = refl; count = refl; values = refl; part = refl; front = refl; next = refl }
alike (looking (members s)) e = record { number = refl; count = refl; values = refl; part = refl; front = refl; next = refl }
alike (looking (next_stop r)) e = record { number = refl; count = refl; values = refl; part = refl; front = refl; next = refl }
alike (looking (write_snapshot b)) e = record { number = buffer-alike (looking (write_snapshot b)) e; count = refl; values = refl; part = refl; front = refl; next = refl }
alike (starting (load_snapshot s)) e = record { number = refl; count = refl; values = refl; part = refl; front = refl; next = refl }

pub length-is-enough : LengthIsEnough
length-is-enough c e = (alike-answer (by_length c) c e (alike c e), alike-after (by_length c) c e (alike c e))
