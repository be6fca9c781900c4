-- `table_edit::set_members`: a store of words 3 and 4 of a set's row.
use native.Mathlib.Omega.{arith}
use lib.ListN.{length-set}
use Rattle.table_edit.proofs.Changes.{members-stored}
use Rattle.table_edit.proofs.set_members.Goals as goal

pub bounds-words-i-2 : goal.bounds-words-i-2
bounds-words-i-2 c = rw length-set (omega arith)

pub returns : goal.returns
returns c = members-stored _ _ c.requires.0 _ c.requires.1
