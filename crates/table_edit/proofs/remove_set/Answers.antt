-- `table_edit::remove_set`: a row of the sets is taken out.
use Rattle.table_edit.proofs.Changes.{set-pulled}
use borrow.Author.Rules.{rules}
use Rattle.table_edit.proofs.remove_set.Goals as goal

pub pull_row-requires : goal.pull_row-requires
pull_row-requires c = rw c.set_kind.ensures (search rules)

pub returns : goal.returns
returns c =
    set-pulled _ _ _ _ c.set_count-n.ensures.0 (rw c.set_kind.ensures at c.pull_row.ensures)
