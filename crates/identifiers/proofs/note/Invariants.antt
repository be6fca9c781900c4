use Prim.Native.Nat.{◌≤◌}
use mathlib.Core.Path.{◌≡◌}
use lib.Dec.{eqb}
use lib.ListN.{length, drop}
use Rattle.identifiers.proofs.Noting.{Before}
use Rattle.identifiers.proofs.Laws.{word_noted}
use Rattle.identifiers.proofs.note.Given as goal

abbrev pub invariant-loop-i : goal.invariant-loop-i
invariant-loop-i l = (l.i ≤ length l.col) × (length l.rows ≡ length l.initial.rows) × Before eqb 0 (word_noted (length l.initial.rows) l.col l.rows) (drop l.i l.col) (drop l.i l.col)
