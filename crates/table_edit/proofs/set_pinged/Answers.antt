-- `table_edit::set_pinged`: a store of word 2 of a set's row.
use Rattle.table_edit.proofs.Changes.{pinged-stored}
use Rattle.table_edit.proofs.set_pinged.Goals as goal

pub returns : goal.returns
returns c = pinged-stored _ _ c.requires.0 _ c.requires.1
