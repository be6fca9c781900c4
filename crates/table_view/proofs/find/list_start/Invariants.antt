use Prim.Native.Nat.{◌≤◌}
use mathlib.Core.Path.{◌≡◌}
use lib.ListN.{length}
use Rattle.table_view.specs.View.{list_start}
use Rattle.table_view.proofs.find.list_start.Given as goal

abbrev pub invariant-loop-j : goal.invariant-loop-j
invariant-loop-j l = (l.at ≡ list_start l.store l._j) × (l.at ≤ length l.store)
