-- `table_edit::append_set`: a set with the next number is added, and the next number grows.
use Rattle.table_edit.proofs.Changes.{set-made}
use Rattle.table_edit.proofs.append_set.Goals as goal

pub returns : goal.returns
returns c =
    set-made _ _ _ _ _ c.next_set-next.ensures c.clock-clock.ensures c.add_set.ensures c.set_next.ensures
