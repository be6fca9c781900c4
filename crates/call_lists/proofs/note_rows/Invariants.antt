use Rattle.table_columns.specs.Buckets.{guid_bucket, Indexed}
use Rattle.table_view.specs.View.{ipids_of}
use Rattle.call_lists.proofs.note_rows.Given as goal

abbrev pub invariant-loop-i : goal.invariant-loop-i
invariant-loop-i l = Indexed guid_bucket l.rows (ipids_of l.words)
