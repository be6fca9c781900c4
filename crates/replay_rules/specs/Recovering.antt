-- What is promised of a replay after a kill. Statements only.
use Rattle.std.specs.Prelude.{ℕ, ◌-◌, ◌≤◌, ◌≡◌, true, List, ◌++◌, length, take, drop}
use Rattle.fields.specs.Fields.{encode}
use Rattle.rules.specs.Entries.{fresh}
use Rattle.rules.specs.Contract.{Memory, right_lengths}
use Rattle.rules.specs.Swapping.{Each}
use Rattle.rules.specs.OneByOne.{calls_done}
use Rattle.table_view.specs.View.{view}
use Rattle.recording.specs.Recording.{Recorded, most_records}
use Rattle.recording.specs.Statements.{Tells}
use Rattle.recording.specs.Whole.{Passes}
use Rattle.recording.specs.Torn.{none_whole, journal}
use Rattle.recording.specs.declared.Prefix.{Prefix}
use Rattle.replay_rules.specs.declared.Outcome.{Outcome}
use Rattle.replay_rules.specs.Replay.{answers_over, calls_in, answers_in, Replayed}

-- the replay agrees, and the table has the entries of exactly the calls whose records were written
pub record Recovered (rs : List Recorded) (o : Outcome) (m' : Memory) : Type 0 where
  pub done : o.answer ≡ 0
  pub agrees : o.differs ≡ 0
  pub entries : view m' ≡ calls_done (calls_in rs) (fresh 0)

-- Of a journal whose records have our answers, and whose last write was torn: the whole records, with their number put before them,
-- replayed into any memory of the right lengths.
abbrev pub Recovers : Type 0
Recovers =
    (rs : List Recorded) (front torn : List ℕ) (r : Prefix) (m m' : Memory) (o : Outcome)
    → Each Tells rs
    → length rs ≤ most_records
    → length front ≡ 8
    → none_whole torn ≡ true
    → answers_in rs ≡ answers_over (calls_in rs) (fresh 0)
    → Passes (journal front rs torn) r
    → right_lengths m ≡ true
    → Replayed m (encode 8 r.count ++ take (r.end - 8) (drop 8 (journal front rs torn))) o m'
    → Recovered rs o m'
