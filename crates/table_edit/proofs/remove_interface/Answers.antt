-- `table_edit::remove_interface`: a row of the interfaces is taken out.
use Rattle.table_edit.proofs.Changes.{interface-pulled}
use borrow.Author.Rules.{rules}
use Rattle.table_edit.proofs.remove_interface.Goals as goal

pub returns : goal.returns
returns c =
    interface-pulled _ _ _ _ c.interface_count-n.ensures.0 (rw c.interface_kind.ensures at c.pull_row.ensures)

pub pull_row-requires : goal.pull_row-requires
pull_row-requires c = rw c.interface_kind.ensures (search rules)
