-- `find::set_numbers`: a column.
use Rattle.table_view.proofs.Columns.{column-read, set-numbers-column}
use Rattle.table_view.proofs.find.set_numbers.Goals as goal

pub returns : goal.returns
returns c =
    let ws = c.args.words.now in
    column-read ws 64 c.column.ensures c.set_count.ensures.0 (set-numbers-column ws c.requires)
