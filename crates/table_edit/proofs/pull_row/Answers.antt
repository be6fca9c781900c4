-- `table_edit::pull_row`: what `remove_row` leaves, with the new count.
use Rattle.table_edit.proofs.KindRows.{row-pulled}
use Rattle.table_edit.proofs.pull_row.Goals as goal

pub returns : goal.returns
returns c =
    row-pulled _ _ _ _ _ c.requires.0 c.requires.4 _ c.remove_row.ensures c.requires.1 c.requires.2
