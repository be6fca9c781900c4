use Prim.Native.Nat.{◌+◌, ◌*◌, ◌≤◌}
use mathlib.Core.Path.{◌≡◌}
use lib.ListN.{drop}
use Rattle.table_view.specs.View.{interfaces_of}
use Rattle.balance.specs.Balance.{counts_held}
use Rattle.balance.proofs.held.Given as goal

abbrev pub invariant-loop-i : goal.invariant-loop-i
invariant-loop-i l = (l.sum + counts_held (drop l.i (interfaces_of l.words)) ≡ counts_held (interfaces_of l.words)) × (l.sum ≤ l.i * 38654705664)
