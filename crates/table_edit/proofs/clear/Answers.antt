-- `table_edit::clear`: the six words that are stored leave no entries.
use native.Mathlib.Omega.{arith}
use lib.ListN.{length-set}
use Rattle.table_edit.proofs.Clearing.{cleared-view}
use Rattle.table_edit.proofs.clear.Goals as goal

pub bounds-words-4 : goal.bounds-words-4
bounds-words-4 c = simp length-set (omega arith)

pub bounds-words-5 : goal.bounds-words-5
bounds-words-5 c = simp length-set (omega arith)

pub returns : goal.returns
returns c = cleared-view c.args.words.now c.args.time c.requires
