-- `table_edit::push_row`: what `store_row` leaves, with the new count.
use Rattle.table_edit.proofs.KindRows.{row_pushed}
use Rattle.table_edit.proofs.push_row.Goals as goal

pub returns : goal.returns
returns c =
    row_pushed _ _ _ _ _ c.requires.0 c.requires.4 _ c.store_row.ensures c.requires.1
