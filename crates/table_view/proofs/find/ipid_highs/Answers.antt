-- `find::ipid_highs`: a column.
use Rattle.table_view.proofs.Columns.{column-read, ipid-highs-column}
use Rattle.table_view.proofs.find.ipid_highs.Goals as goal

pub returns : goal.returns
returns c =
    let ws = c.args.words.now in
    column-read ws 1024 c.column.ensures c.interface_count.ensures.0 (ipid-highs-column ws c.requires)
