-- `find::oids`: a column.
use Rattle.table_view.proofs.Columns.{column-read, oids-column}
use Rattle.table_view.proofs.find.oids.Goals as goal

pub returns : goal.returns
returns c =
    let ws = c.args.words.now in
    column-read ws 256 c.column.ensures c.object_count.ensures.0 (oids-column ws c.requires)
