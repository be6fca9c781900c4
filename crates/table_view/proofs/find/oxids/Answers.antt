-- `find::oxids`: a column.
use Rattle.table_view.proofs.Columns.{column-read, oxids-column}
use Rattle.table_view.proofs.find.oxids.Goals as goal

pub returns : goal.returns
returns c s =
    let ws = c.args.words.now in
    column-read ws 16 c.column.ensures c.exporter_count.ensures.0 (oxids-column ws c.requires s)
