-- `table_edit::add_set`: a row of the sets is entered.
use native.Mathlib.Omega.{arith}
use Rattle.table_edit.proofs.Changes.{set-added}
use borrow.Author.Rules.{rules}
use Rattle.table_edit.proofs.add_set.Goals as goal

pub returns : goal.returns
returns c =
    let e = c.set_count-n.ensures.0 in
    set-added _ _ _ _ _ _ c.args.members (omega arith) e (omega arith) (rw c.set_kind.ensures at c.push_row.ensures)

pub push_row-requires : goal.push_row-requires
push_row-requires c = rw c.set_kind.ensures (search rules)
