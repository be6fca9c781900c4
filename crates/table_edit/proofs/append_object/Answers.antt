-- `table_edit::append_object`: an object is added, heard at the clock.
use Rattle.table_edit.proofs.append_object.Goals as goal

pub returns : goal.returns
returns c = rw c.clock-clock.ensures at c.add_object.ensures
