-- `table_edit::set_sequence`: a store of word 1 of a set's row.
use native.Mathlib.Omega.{arith}
use Rattle.table_edit.proofs.Changes.{sequence-stored}
use Rattle.table_edit.proofs.set_sequence.Goals as goal

pub returns : goal.returns
returns c = sequence-stored _ _ c.requires.0 _ (omega arith) c.requires.1
