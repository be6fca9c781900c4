-- A record replayed, by its sections.
use Rattle.std.specs.Prelude.{ℕ, ◌+◌, ◌-◌, ◌≤◌, List, take, drop}
use Rattle.rules.specs.Contract.{Memory, Whole}
use Rattle.recording.specs.Recording.{Sections, recorded_of}
use Rattle.recording.specs.declared.Ends.{Ends}
use Rattle.replay_step.specs.Steps.{StepDone}
use Rattle.replay_step.specs.declared.Step.{Step}

abbrev pub sections : (call first second answer shown : List ℕ) → Sections
sections call first second answer shown = record { call = call; first = first; second = second; answer = answer; shown = shown }

-- the sections of the record from at that ends so, by their places
abbrev pub placed : List ℕ → ℕ → Ends → Sections
placed s at e =
    sections
    (take (e.call - (at + 8)) (drop (at + 8) s))
    (take (e.first - (e.call + 8)) (drop (e.call + 8) s))
    (take (e.second - (e.first + 8)) (drop (e.first + 8) s))
    (take (e.answer - (e.second + 8)) (drop (e.second + 8) s))
    (take (e.shown - (e.answer + 8)) (drop (e.answer + 8) s))

-- one after the other within n bytes, each behind its count
pub record InOrder (n at : ℕ) (e : Ends) : Type 0 where
  pub call : at + 8 ≤ e.call
  pub first : e.call + 8 ≤ e.first
  pub second : e.first + 8 ≤ e.second
  pub answer : e.second + 8 ≤ e.answer
  pub shown : e.answer + 8 ≤ e.shown
  pub inside : e.shown ≤ n

-- One record replayed: its call is done, and the lengths stay.
pub record RecordDone (x : Sections) (m : Memory) (d : Step) (m' : Memory) : Type 0 where
  pub done : StepDone (recorded_of x) m d m'
  pub words : Whole m'.words
  pub store : Whole m'.store
