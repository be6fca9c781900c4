use Rattle.table_columns.proofs.rows.MovedRows.{PutTo}
use Rattle.table_columns.proofs.rows.store_row.Given as goal

abbrev pub invariant-loop-j : goal.invariant-loop-j
invariant-loop-j l = PutTo l.k l.i l.row l.initial.ws l.ws l.j
