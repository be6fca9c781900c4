-- `table_edit::set_next`: a store of word 1 alone.
use lib.Seq.{get_or-set_same}
use native.Mathlib.Omega.{arith}
use Rattle.table_edit.proofs.KindRows.{no_rows, only-word}
use Rattle.table_edit.proofs.Views.{became-next}
use Rattle.table_edit.proofs.set_next.Goals as goal

pub returns : goal.returns
returns c =
    let ws = c.args.words.now in
    became-next ws _ _ (only-word no_rows 1 ws c.args.number.0) (get_or-set_same ws 1 c.args.number.0 0 (omega arith))
