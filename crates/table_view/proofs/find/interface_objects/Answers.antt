-- `find::interface_objects`: a column.
use Rattle.table_view.proofs.Columns.{column-read, interface-objects-column}
use Rattle.table_view.proofs.find.interface_objects.Goals as goal

pub returns : goal.returns
returns c =
    let ws = c.args.words.now in
    column-read ws 1792 c.column.ensures c.interface_count.ensures.0 (interface-objects-column ws c.requires)
