-- What a ping leaves, by the row of its set: for the contracts of steps below the calls. The rule of a ping is in Rules.antt.
use Rattle.std.specs.Prelude.{ℕ, List, get_or, set}
use Rattle.rules.specs.Entries.{PingSet, Entries, with_sets, pinged_at, with_sequence, with_members}
use Rattle.rules.specs.Rules.{no_set, heard_now, new_members}

-- the set at a row changed
abbrev pub change_set : ℕ → (PingSet → PingSet) → Entries → Entries
change_set i f e = with_sets (set e.sets i (f (get_or e.sets i no_set))) e

-- the set at a row is pinged: its ping time and every member's heard time become the clock
abbrev pub pinged_row : ℕ → Entries → Entries
pinged_row i e = change_set i (pinged_at e.clock) (heard_now (get_or e.sets i no_set).members e)

-- the set at a row with the sequence number and the members of a complex ping
abbrev pub updated_row : ℕ → ℕ → List ℕ → List ℕ → Entries → Entries
updated_row i n adds dels e = change_set i (λ p. with_sequence n (with_members (new_members e adds dels p.members) p)) e
