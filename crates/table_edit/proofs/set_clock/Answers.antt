-- `table_edit::set_clock`: a store of word 0 alone.
use lib.Seq.{get_or-set_same}
use native.Mathlib.Omega.{arith}
use Rattle.table_edit.proofs.KindRows.{no_rows, only-word}
use Rattle.table_edit.proofs.Views.{became-clock}
use Rattle.table_edit.proofs.set_clock.Goals as goal

pub returns : goal.returns
returns c =
    let ws = c.args.words.now in
    became-clock ws _ _ (only-word no_rows 0 ws c.args.time) (get_or-set_same ws 0 c.args.time 0 (omega arith))
