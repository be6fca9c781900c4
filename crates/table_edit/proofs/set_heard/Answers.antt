-- `table_edit::set_heard`: a store of word 3 of an object's row.
use Rattle.table_edit.proofs.Changes.{heard-stored}
use Rattle.table_edit.proofs.set_heard.Goals as goal

pub returns : goal.returns
returns c = heard-stored _ _ c.requires.0 _ c.requires.1
