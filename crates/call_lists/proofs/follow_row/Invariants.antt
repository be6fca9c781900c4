use Rattle.table_columns.specs.Buckets.{guid_bucket, Indexed}
use Rattle.table_view.specs.View.{ipids_of}
use Rattle.call_lists.proofs.follow_row.Given as goal

abbrev pub invariant-loop-number : goal.invariant-loop-number
invariant-loop-number l = Indexed guid_bucket l.rows (ipids_of l.words)
