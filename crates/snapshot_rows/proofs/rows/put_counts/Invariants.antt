use lib.ListN.{drop}
use Rattle.lists.specs.Lists.{tabulate}
use Rattle.rules.specs.Snapshot.{in_row}
use Rattle.snapshot_rows.specs.Rows.{count_bytes_at}
use Rattle.snapshot_rows.proofs.Writing.{Left}
use Rattle.snapshot_rows.proofs.rows.put_counts.Given as goal

abbrev pub invariant-loop-k : goal.invariant-loop-k
invariant-loop-k l =
    Left l.initial.buffer l.at (in_row (count_bytes_at l.words l.i) (tabulate 9 (λ j. j))) l.buffer l.next (in_row (count_bytes_at l.words l.i) (drop l.k (tabulate 9 (λ j. j))))
