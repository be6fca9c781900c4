-- A turn of the replay: a record replayed and tallied.
use Rattle.std.specs.Prelude.{ℕ, ◌≡◌, List, drop}
use Rattle.rules.specs.Contract.{Memory, Whole}
use Rattle.table_view.specs.View.{view}
use Rattle.tally.specs.declared.Tally.{Tally}
use Rattle.tally.specs.Tallies.{wrapped}
use Rattle.balance.specs.Balance.{held_in}
use Rattle.balance.specs.Sides.{side_of, moved}
use Rattle.recording.specs.Recording.{Recorded, sections_at, recorded_of}
use Rattle.recording.specs.Places.{ends_from}
use Rattle.replay_step.specs.Steps.{StepDone}
use Rattle.replay_step.specs.declared.Step.{Step}
use Rattle.replaying.specs.declared.shift.Turn.{Turn}

-- the tally after a record, by the table's sums
abbrev pub step_tally : Recorded → Memory → Step → Memory → Tally → Tally
step_tally r m d m' y = moved (side_of r.call) d.accepted (held_in (view m)) (held_in (view m')) y

-- the record from at
abbrev pub recorded_at : List ℕ → ℕ → Recorded
recorded_at s at = recorded_of (sections_at (drop at s))

-- Of the record from at, on the memory m with the tally y.
pub record TurnDone (s : List ℕ) (at : ℕ) (m : Memory) (y : Tally) (r : Turn) (m' : Memory) : Type 0 where
  pub step : Step
  pub done : StepDone (recorded_at s at) m step m'
  pub words : Whole m'.words
  pub store : Whole m'.store
  pub agrees : r.agrees ≡ step.agrees
  pub end : r.end ≡ ends_from 5 s at
  pub held : r.held ≡ held_in (view m')
  pub tally : r.tally ≡ wrapped (step_tally (recorded_at s at) m step m' y)
