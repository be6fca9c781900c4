-- A short shift: an exporter, its object with three references, four private ones for client 2; two released; the client dropped, which
-- runs down three; a clock, which runs down the last two; a census.
use Rattle.std.specs.Prelude.{ℕ, ◌≡◌, false, List, [], ◌∷◌}
use Rattle.kinds.specs.declared.Guid.{Guid}
use Rattle.rules.specs.Entries.{fresh}
use Rattle.rules.specs.Calls.{Call, looking, editing, enter_exporter, enter_object, add, release, drop_client, clock, census}
use Rattle.balance.specs.Balance.{no_tally, tally_over}
use Rattle.recording.specs.Recording.{Recorded}
use Rattle.replay_rules.specs.Replay.{first_differing, calls_in}

abbrev recorded : Call → ℕ → List ℕ → Recorded
recorded c n vs = record { call = c; answer = record { number = n; values = vs; shown = [] } }

abbrev ipid : Guid
ipid = record { low = 0x71; high = 0x72 }

unfoldable pub shift : ℕ → List Recorded
shift exporters =
    recorded (editing (enter_exporter 0x51 (record { low = 0x61; high = 0x62 }) (2 ∷ 0 ∷ 1 ∷ 0 ∷ 0 ∷ 0 ∷ 0 ∷ 0 ∷ []))) 0 []
    ∷ recorded (editing (enter_object 0x41 0x51 ipid (record { low = 1; high = 2 }) 3 false)) 0 []
    ∷ recorded (editing (add 2 ipid 0 4)) 0 []
    ∷ recorded (editing (release 2 ipid 1 1)) 0 (1 ∷ 1 ∷ 0 ∷ 0 ∷ [])
    ∷ recorded (editing (drop_client 2)) 0 []
    ∷ recorded (editing (clock 360)) 0 (0 ∷ 1 ∷ 1 ∷ 0 ∷ [])
    ∷ recorded (looking census) 0 (exporters ∷ 0 ∷ 0 ∷ 0 ∷ [])
    ∷ []

pub record ShiftReplayed : Type 0 where
  pub agrees : first_differing (shift 1) (fresh 0) 1 ≡ 0
  -- another answer to the census
  pub differs : first_differing (shift 2) (fresh 0) 1 ≡ 7
  pub tally : tally_over (calls_in (shift 1)) (fresh 0) no_tally ≡ record { granted = 7; taken = 2; rundown = 5 }
