-- `table_edit::store_count`: a store of word 5 + k of an interface's row.
use native.Mathlib.Omega.{arith}
use Rattle.table_edit.proofs.StoredCounts.{count-stored}
use Rattle.table_edit.proofs.store_count.Goals as goal

pub returns : goal.returns
returns c = count-stored c.args.words.now c.args.i c.args.k c.args.n c.requires.0 c.requires.1 c.requires.2 (omega arith)
