use Prim.Native.Nat.{ℕ}
use mathlib.Core.Path.{◌≡◌}
use mathlib.Core.List.{List}
use lib.ListN.{length}
use Rattle.table_view.specs.View.{memory, view}
use Rattle.table_settle.proofs.Going.{HeldGoing}
use Rattle.table_settle.proofs.drop_unheld.Given as goal

abbrev pub invariant-loop-i : goal.invariant-loop-i
invariant-loop-i l = (length l.words ≡ 8192) × ((s : List ℕ) → HeldGoing (view (memory l.initial.words s)) l.i (view (memory l.words s)))
