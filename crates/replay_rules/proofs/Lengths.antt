-- A replay's answer by its lengths.
use Prim.Native.Nat.{ℕ}
use mathlib.Core.Path.{◌≡◌, sym, ap}
use mathlib.Core.Bool.{Bool, true, false, cond, not, ◌&&◌}
use mathlib.Core.List.{List}
use borrow.Author.Tests.{eq-eqb}
use lib.ListN.{length}
use Rattle.kinds.specs.Refusals.{order}
use Rattle.rules.specs.Contract.{Memory, Whole, right_lengths}
use Rattle.recording.specs.Recording.{recording_answer}
use Rattle.replay_rules.specs.Replay.{replay_answer}

pub whole-lengths : (m : Memory) → Whole m.words → Whole m.store → right_lengths m ≡ true
whole-lengths m w b u = eq-eqb (length m.words) 8192 w u && eq-eqb (length m.store) 8192 b u

pub wrong-lengths : (m : Memory) (s : List ℕ) → right_lengths m ≡ false → 1 ≡ replay_answer m s
unfolding replay_answer recording_answer order
wrong-lengths m s h = sym (ap (λ (b : Bool). cond (not b) 1 (recording_answer s)) h)

pub right-lengths : (m : Memory) (s : List ℕ) → right_lengths m ≡ true → recording_answer s ≡ replay_answer m s
unfolding replay_answer recording_answer order
right-lengths m s h = sym (ap (λ (b : Bool). cond (not b) 1 (recording_answer s)) h)
