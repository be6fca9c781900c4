use Prim.Native.Nat.{◌≤◌}
use mathlib.Core.Path.{◌≡◌}
use mathlib.Core.List.{◌++◌}
use lib.ListN.{length, drop}
use Rattle.lists.specs.Guids.{nil, same_guid}
use Rattle.table_columns.specs.Guids.{guids}
use Rattle.identifiers.specs.Index.{guid_noted}
use Rattle.identifiers.proofs.Noting.{Before}
use Rattle.identifiers.proofs.enter_guids.Given as goal

abbrev pub invariant-loop-i : goal.invariant-loop-i
invariant-loop-i l =
    (l.i ≤ length l.lows) × (length l.rows ≡ 4096)
    × Before same_guid nil (guid_noted l.rows l.lows2 l.highs2) (drop l.i (guids l.lows l.highs)) (drop l.i (guids l.lows l.highs) ++ drop l.from (guids l.lows2 l.highs2))
