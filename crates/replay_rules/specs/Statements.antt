-- What is promised of a replay. Statements only.
use Rattle.std.specs.Prelude.{ℕ, suc, ◌+◌, ◌*◌, ◌^◌, ◌<◌, ◌≤◌, ◌≡◌, List, [], ◌∷◌, ◌++◌, Bool, true, false, cond, length, get_or, take, eqb}
use Rattle.rules.specs.Entries.{Entries, fresh}
use Rattle.rules.specs.Calls.{Call, starting, looking, editing, reset, count_list, resolve, resolve_filtered, census, members, next_stop, write_snapshot, Reply}
use Rattle.rules.specs.Items.{item_count}
use Rattle.rules.specs.Rules.{reply}
use Rattle.rules.specs.Contract.{Memory}
use Rattle.rules.specs.Swapping.{Each}
use Rattle.rules.specs.OneByOne.{calls_done}
use Rattle.table_view.specs.View.{view, sound_memory, Performed}
use Rattle.history.specs.Runs.{Run, AfterRun}
use Rattle.recording.specs.Recording.{Answer, Recorded, records_of, most_records}
use Rattle.recording.specs.Statements.{Given, by_length, value_count}
use Rattle.tally.specs.declared.Tally.{Tally}
use Rattle.balance.specs.Balance.{no_tally, after, tally_over, Balanced}
use Rattle.replay_rules.specs.declared.Outcome.{Outcome}
use Rattle.replay_step.specs.Answers.{answer_to}
use Rattle.replay_rules.specs.Replay.{answers_over, first_differing, done, calls_in, answers_in, replayed_calls, Replayed}

-- "agrees" exactly if every answer equals ours
abbrev pub Agrees : Type 0
Agrees =
    (rs : List Recorded)
    → (first_differing rs (fresh 0) 1 ≡ 0 → answers_in rs ≡ answers_over (calls_in rs) (fresh 0))
    × (answers_in rs ≡ answers_over (calls_in rs) (fresh 0) → first_differing rs (fresh 0) 1 ≡ 0)

-- of records from entries e, the first being number n, record k is the first that differs: those before it have our answers, its own is
-- another, and through it all are done
pub record FirstDiffers (rs : List Recorded) (e : Entries) (n k : ℕ) : Type 0 where
  pub before : List Recorded
  pub this : Recorded
  pub behind : List Recorded
  pub all : before ++ (this ∷ behind) ≡ rs
  pub number : length before + n ≡ k
  pub same : answers_in before ≡ answers_over (calls_in before) e
  pub differs : this.answer ≡ answer_to this.call (calls_done (calls_in before) e) → ⊥
  pub stopped : done rs e ≡ before ++ (this ∷ [])

abbrev pub StopsAtFirst : Type 0
StopsAtFirst = (rs : List Recorded) (k : ℕ) → first_differing rs (fresh 0) 1 ≡ suc k → FirstDiffers rs (fresh 0) 1 (suc k)

-- all are done where every answer equals ours
abbrev pub DoneAll : Type 0
DoneAll = (rs : List Recorded) → first_differing rs (fresh 0) 1 ≡ 0 → done rs (fresh 0) ≡ rs

-- a call with its buffer by its length is answered alike, and leaves the same entries
abbrev pub LengthIsEnough : Type 0
LengthIsEnough = (c : Call) (e : Entries) → (answer_to (by_length c) e ≡ answer_to c e) × (after (by_length c) e ≡ after c e)

-- of the outcome of an accepted replay: it differs nowhere exactly where every recorded answer equals ours, and else at the first that differs
pub record Told (s : List ℕ) (r : Outcome) : Type 0 where
  pub agrees : r.differs ≡ 0 → answers_in (records_of s) ≡ answers_over (calls_in (records_of s)) (fresh 0)
  pub ours : answers_in (records_of s) ≡ answers_over (calls_in (records_of s)) (fresh 0) → r.differs ≡ 0
  pub first : (k : ℕ) → r.differs ≡ suc k → FirstDiffers (records_of s) (fresh 0) 1 (suc k)

abbrev pub ReplayTold : Type 0
ReplayTold = (m m' : Memory) (s : List ℕ) (r : Outcome) → Replayed m s r m' → r.answer ≡ 0 → Told s r

-- ---- our answer is what the performed call answers

-- how many bytes a reply says were written at the front of the buffer
abbrev pub written_by : Call → Reply → ℕ
written_by (starting c) r = 0
written_by (looking (resolve x b)) r = get_or r.values 0 0
written_by (looking (resolve_filtered x ps b)) r = get_or r.values 0 0
written_by (looking census) r = 0
written_by (looking (members s)) r = 0
written_by (looking (next_stop s)) r = 0
written_by (looking (write_snapshot b)) r = get_or r.values 0 0
written_by (editing c) r = 0
written_by (count_list w c s b) r = cond (eqb r.number 0) (item_count s) 0

-- what a record tells of a reply
abbrev pub answer_in : Call → Reply → Answer
answer_in c r = record { number = r.number; values = take (value_count c) r.values; shown = r.part ++ take (written_by c r) r.buffer }

-- of a call that is performed on a sound table
abbrev pub OursPerformed : Type 0
OursPerformed = (c : Call) (m m' : Memory) (r : Reply) → Performed c m r m' → sound_memory m ≡ true → answer_to c (view m) ≡ answer_in c r

-- a record tells every number that is answered; of a next stop alone not of which slice it is a part
abbrev pub is_stop : Call → Bool
is_stop (starting c) = false
is_stop (looking (resolve x b)) = false
is_stop (looking (resolve_filtered x ps b)) = false
is_stop (looking census) = false
is_stop (looking (members s)) = false
is_stop (looking (next_stop s)) = true
is_stop (looking (write_snapshot b)) = false
is_stop (editing c) = false
is_stop (count_list w c s b) = false

abbrev pub AllTold : Type 0
AllTold = (c : Call) (e : Entries) → is_stop c ≡ false → value_count c ≡ length (reply c e).values

-- ---- in a run

-- runs one after the other
abbrev pub RunAppend : Type 0
RunAppend =
    (cs ds : List Call) (rs ss : List Reply) (m m' m'' : Memory)
    → Run cs rs m m'
    → Run ds ss m' m''
    → Run (cs ++ ds) (rs ++ ss) m m''

-- a replay within a run is a part of it: its reset and its calls
abbrev pub ReplayInRun : Type 0
ReplayInRun =
    (cs : List Call) (rs : List Reply) (m₀ m m' : Memory) (s : List ℕ) (r : Outcome)
    → Run cs rs m₀ m
    → Replayed m s r m'
    → r.answer ≡ 0
    → (ss : List Reply) × Run (cs ++ (starting (reset 0) ∷ replayed_calls s)) (rs ++ ss) m₀ m'

-- a refused one leaves it as it was
abbrev pub RefusedInRun : Type 0
RefusedInRun =
    (cs : List Call) (rs : List Reply) (m₀ m m' : Memory) (s : List ℕ) (r : Outcome)
    → Run cs rs m₀ m
    → Replayed m s r m'
    → (r.answer ≡ 0 → ⊥)
    → Run cs rs m₀ m'

-- after it demand 3 holds, of the history that its reset begins
abbrev pub ReplayBegins : Type 0
ReplayBegins =
    (m m' : Memory) (s : List ℕ) (r : Outcome)
    → Replayed m s r m'
    → r.answer ≡ 0
    → (ss : List Reply) × AfterRun (starting (reset 0) ∷ replayed_calls s) ss m'

-- ---- the tally

-- at each record: after every run that an accepted reset begins, and so after every part of it, granted equals what the table holds,
-- plus taken, plus run down
abbrev pub EachRecord : Type 0
EachRecord =
    (t : ℕ) (cs : List Call) (r : Reply) (rs : List Reply) (m m' : Memory)
    → r.number ≡ 0
    → Run (starting (reset t) ∷ cs) (r ∷ rs) m m'
    → Balanced (tally_over cs (fresh t) no_tally) (view m')

-- so at the end
abbrev pub ReplayBalanced : Type 0
ReplayBalanced = (m m' : Memory) (s : List ℕ) (r : Outcome) → Replayed m s r m' → r.answer ≡ 0 → Balanced r.tally (view m')

-- no number of the tally passes 2^49 for each call, so 16,384 of them stay below 2^64
abbrev pub TallySmall : Type 0
TallySmall = (cs : List Call) → Each Given cs → (tally_over cs (fresh 0) no_tally).granted ≤ length cs * 2 ^ 49

-- the sums are exact in 64 bits
pub record TallyFits (y : Tally) : Type 0 where
  pub granted : y.granted < 2 ^ 64
  pub taken : y.taken < 2 ^ 64
  pub rundown : y.rundown < 2 ^ 64

abbrev pub TalliesFit : Type 0
TalliesFit = (cs : List Call) → Each Given cs → length cs ≤ most_records → TallyFits (tally_over cs (fresh 0) no_tally)
