-- The call of a record that writes to a buffer or shows a part.
use Rattle.std.specs.Prelude.{ℕ, ◌&&◌, List, eqb}
use Rattle.bindings.specs.Bindings.{same_words}
use Rattle.replay_step.specs.Steps.{numbers_are}
use Rattle.replay_step.specs.declared.Step.{Step}

-- the step of a call by what it answers and shows
abbrev pub shown_step : (answer shown ours : List ℕ) → ℕ → ℕ → ℕ → ℕ → ℕ → Step
shown_step answer shown ours number a b c d =
    record { agrees = numbers_are answer number a b c d && same_words shown ours; accepted = eqb number 0 }
