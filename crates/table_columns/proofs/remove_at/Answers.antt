-- `table_columns::remove_at`: the words after k are pasted at k, or k is past the end.
use Rattle.std.proofs.Common.{length, le-ltb}
use Rattle.table_columns.specs.Moved.{removed_at}
use Rattle.table_columns.proofs.Moves.{move-removed}
use Rattle.table_columns.proofs.remove_at.Goals as goal

pub returns-then-k-col : goal.returns-then-k-col
returns-then-k-col c = move-removed _ _ _ c.if-k-col.true c.copy_within.ensures.after

pub returns-else-k-col : goal.returns-else-k-col
unfolding removed_at
returns-else-k-col c = let v = c.args in rw (le-ltb v.k (length v.col.now) c.if-k-col.false)
