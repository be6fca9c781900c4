use Rattle.std.proofs.Common.{◌≡◌}
use Rattle.table_columns.proofs.Passing.{Passed}
use Rattle.table_columns.proofs.passed.Given as goal

abbrev pub invariant-loop-low : goal.invariant-loop-low
invariant-loop-low l =
    (l.low-iterator.a.size ≡ 8) × (l.low-iterator.b.size ≡ 8)
    × Passed l.lows l.highs l.low-iterator.a.rest.now l.low-iterator.b.rest.now l.n l.g
