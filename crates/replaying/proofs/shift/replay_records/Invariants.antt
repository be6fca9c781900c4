use mathlib.Core.Path.{◌≡◌}
use mathlib.Core.Bool.{true}
use Rattle.rules.specs.Calls.{starting, reset, Reply}
use Rattle.rules.specs.Contract.{Memory, right_lengths}
use Rattle.table_view.specs.View.{memory, Performed}
use Rattle.replaying.proofs.Looping.{Before}
use Rattle.replaying.proofs.shift.replay_records.Given as goal

abbrev pub invariant-loop-left : goal.invariant-loop-left
invariant-loop-left l =
    (m₀ : Memory) (r : Reply) → Performed (starting (reset 0)) m₀ r (memory l.initial.words l.initial.store) → right_lengths m₀ ≡ true → Before l.s m₀ (memory l.words l.store) l.left l.at l.number l.held l.tally

abbrev pub decreases-loop-left : goal.decreases-loop-left
decreases-loop-left l = l.left
