-- `find::ipid_lows`: a column.
use Rattle.table_view.proofs.Columns.{column-read, ipid-lows-column}
use Rattle.table_view.proofs.find.ipid_lows.Goals as goal

pub returns : goal.returns
returns c =
    let ws = c.args.words.now in
    column-read ws 768 c.column.ensures c.interface_count.ensures.0 (ipid-lows-column ws c.requires)
