use Prim.Native.Nat.{◌+◌, ◌-◌, ◌≤◌}
use mathlib.Core.Path.{◌≡◌}
use lib.ListN.{length, drop}
use Rattle.bindings.specs.Bindings.{is_part}
use Rattle.list_writer.specs.Writing.{ended}
use Rattle.list_writer.proofs.in_a_row.Given as goal

abbrev pub invariant-loop-i : goal.invariant-loop-i
invariant-loop-i l = (l.i ≤ length l.words + 1) × (is_part l.p (drop l.i (ended l.words)) ≡ is_part l.p (ended l.words))

abbrev pub decreases-loop-i : goal.decreases-loop-i
decreases-loop-i l = length l.words + 1 - l.i
