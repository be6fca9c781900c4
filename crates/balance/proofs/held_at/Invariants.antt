use Prim.Native.Nat.{ℕ, ◌+◌, ◌*◌, ◌≤◌}
use mathlib.Core.Path.{◌≡◌}
use mathlib.Core.List.{List}
use lib.ListN.{get_or, drop}
use Rattle.rules.specs.Rules.{no_interface}
use Rattle.table_view.specs.View.{interfaces_of}
use Rattle.balance.specs.Balance.{total}
use Rattle.balance.proofs.held_at.Given as goal

abbrev pub counts : List ℕ → ℕ → List ℕ
counts ws i = (get_or (interfaces_of ws) i no_interface).counts

abbrev pub invariant-loop-k : goal.invariant-loop-k
invariant-loop-k l = (l.sum + total (drop l.k (counts l.words l.i)) ≡ total (counts l.words l.i)) × (l.sum ≤ l.k * 4294967296)
