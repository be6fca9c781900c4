-- `table_columns::rest`: the words from an index on.
use Rattle.table_columns.proofs.Loops.{tail-cut}
use Rattle.table_columns.proofs.rest.Goals as goal

pub returns : goal.returns
returns c = let v = c.args in rw c.min.ensures (tail-cut v.from v.col.now)
