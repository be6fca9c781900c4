-- The call of a record replayed.
use Rattle.std.specs.Prelude.{ℕ, ◌+◌, ◌*◌, ◌≡◌, Bool, ◌&&◌, List, [], ◌∷◌, length, eqb}
use Rattle.fields.specs.Fields.{field}
use Rattle.lists.specs.Lists.{holding, tabulate}
use Rattle.rules.specs.Calls.{Call, Reply}
use Rattle.rules.specs.Rules.{number}
use Rattle.rules.specs.Contract.{Memory, Whole}
use Rattle.table_view.specs.View.{view, Performed}
use Rattle.recording.specs.Recording.{Answer, Recorded}
use Rattle.recording.specs.Statements.{value_count}
use Rattle.replay_step.specs.Answers.{answer_to, same_answer}
use Rattle.replay_step.specs.declared.Step.{Step}

-- Of the call of a record that is lent m and leaves m': it is performed; the step says whether the recorded answer is ours, and whether
-- the call was accepted.
pub record StepDone (r : Recorded) (m : Memory) (d : Step) (m' : Memory) : Type 0 where
  pub reply : Reply
  pub performed : Performed r.call m reply m'
  pub agrees : d.agrees ≡ same_answer r.answer (answer_to r.call (view m))
  pub accepted : d.accepted ≡ eqb (number r.call (view m)) 0

-- the numbers of an answer's section, by their places
unfoldable pub numbers_are : List ℕ → ℕ → ℕ → ℕ → ℕ → ℕ → Bool
numbers_are s number a b c d =
    holding (eqb (field s 0 8) number ∷ eqb (field s 8 8) a ∷ eqb (field s 16 8) b ∷ eqb (field s 24 8) c ∷ eqb (field s 32 8) d ∷ [])

-- the answer that an answer's section with n results and shown bytes tell
abbrev pub answer_in : ℕ → List ℕ → List ℕ → Answer
answer_in n s shown = record { number = field s 0 8; values = tabulate n (λ k. field s (8 + 8 * k) 8); shown = shown }

-- the record of a call with these sections of its answer
abbrev pub record_with : Call → List ℕ → List ℕ → Recorded
record_with c s shown = record { call = c; answer = answer_in (value_count c) s shown }

-- One call replayed: the record is done, and the lengths stay.
pub record CallDone (c : Call) (s shown : List ℕ) (m : Memory) (d : Step) (m' : Memory) : Type 0 where
  pub done : StepDone (record_with c s shown) m d m'
  pub words : Whole m'.words
  pub store : Whole m'.store

-- the step of a call that shows nothing, by what it answers
abbrev pub plain_step : List ℕ → List ℕ → ℕ → ℕ → ℕ → ℕ → ℕ → Step
plain_step s shown number a b c d = record { agrees = numbers_are s number a b c d && eqb (length shown) 0; accepted = eqb number 0 }
