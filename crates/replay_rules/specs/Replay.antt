-- The replay of a recording from a reset at 0 (document 02, request 11): whether every answer equals ours, or the number of the first
-- record that differs; and the tally.
use Rattle.std.specs.Prelude.{ℕ, suc, ◌≡◌, cond, not, List, [], ◌∷◌, map, eqb}
use Rattle.kinds.specs.Refusals.{Row, ◌gives◌, order}
use Rattle.rules.specs.Entries.{Entries, fresh}
use Rattle.rules.specs.Calls.{Call, starting, reset, Reply}
use Rattle.rules.specs.Contract.{Memory, right_lengths}
use Rattle.history.specs.Runs.{Run}
use Rattle.recording.specs.Recording.{Answer, Recorded, records_of, recording_refusals}
use Rattle.balance.specs.Balance.{no_tally, after, tally_over}
use Rattle.replay_step.specs.Answers.{answer_to, same_answer}
use Rattle.replay_rules.specs.declared.Outcome.{Outcome}

-- ---- our answers

-- to calls in a row
unfoldable pub answers_over : List Call → Entries → List Answer
answers_over [] e = []
answers_over (c ∷ cs) e = answer_to c e ∷ answers_over cs (after c e)

-- ---- the records

-- the number of the first record whose answer differs from ours, the first of them being number n; 0 where none does
unfoldable pub first_differing : List Recorded → Entries → ℕ → ℕ
first_differing [] e n = 0
first_differing (r ∷ rs) e n = cond (same_answer r.answer (answer_to r.call e)) (first_differing rs (after r.call e) (suc n)) n

-- the records through the first that differs
unfoldable pub done : List Recorded → Entries → List Recorded
done [] e = []
done (r ∷ rs) e = r ∷ cond (same_answer r.answer (answer_to r.call e)) (done rs (after r.call e)) []

abbrev pub calls_in : List Recorded → List Call
calls_in rs = map (λ (r : Recorded). r.call) rs

abbrev pub answers_in : List Recorded → List Answer
answers_in rs = map (λ (r : Recorded). r.answer) rs

-- it stops there, that call done
abbrev pub replayed_calls : List ℕ → List Call
replayed_calls s = calls_in (done (records_of s) (fresh 0))

-- ---- the outcome

-- table lengths are 1, then the recording's
abbrev pub replay_refusals : Memory → List ℕ → List Row
replay_refusals m s = not (right_lengths m) gives 1 ∷ recording_refusals s

unfoldable pub replay_answer : Memory → List ℕ → ℕ
replay_answer m s = order (replay_refusals m s)

-- by lengths and the recording alone: the table that is lent is not judged
unfoldable pub outcome_of : Memory → List ℕ → Outcome
outcome_of m s =
    cond (eqb (replay_answer m s) 0)
    (record { answer = 0; differs = first_differing (records_of s) (fresh 0) 1; tally = tally_over (replayed_calls s) (fresh 0) no_tally })
    (record { answer = replay_answer m s; differs = 0; tally = no_tally })

-- ---- the contract

-- Of a replay of the bytes s that is lent m and leaves m'. Its reset and its calls are a run, each performed on the memory that the last
-- one left, so they count in demand 3's history.
pub record Replayed (m : Memory) (s : List ℕ) (r : Outcome) (m' : Memory) : Type 0 where
  pub answered : r ≡ outcome_of m s
  pub kept : (r.answer ≡ 0 → ⊥) → m' ≡ m
  pub ran : r.answer ≡ 0 → (rs : List Reply) × Run (starting (reset 0) ∷ replayed_calls s) rs m m'
