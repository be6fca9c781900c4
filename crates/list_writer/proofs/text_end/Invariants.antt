use Prim.Native.Nat.{◌+◌, ◌≤◌}
use mathlib.Core.Path.{◌≡◌}
use lib.ListN.{length, drop}
use Rattle.bindings.specs.Bindings.{through_zero}
use Rattle.list_writer.specs.Writing.{ended}
use Rattle.list_writer.proofs.text_end.Given as goal

abbrev pub invariant-loop-i : goal.invariant-loop-i
invariant-loop-i l =
    (l.i ≤ length l.words + 1) × (l.i + length (through_zero (drop l.i (ended l.words))) ≡ l.from + length (through_zero (drop l.from (ended l.words))))
