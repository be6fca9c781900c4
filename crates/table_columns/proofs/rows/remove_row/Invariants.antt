use Rattle.table_columns.proofs.rows.MovedRows.{RemovedTo}
use Rattle.table_columns.proofs.rows.remove_row.Given as goal

abbrev pub invariant-loop-j : goal.invariant-loop-j
invariant-loop-j l = RemovedTo l.k l.n l.i l.initial.ws l.ws l.j
