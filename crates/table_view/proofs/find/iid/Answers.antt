-- `find::iid`: two words of the interface's row.
use native.Mathlib.Omega.{arith}
use Rattle.table_columns.proofs.rows.Laws.{row_at-get_or}
use Rattle.rules.specs.Rules.{no_interface}
use Rattle.table_words.specs.Kinds.{interface_kind}
use Rattle.table_view.proofs.LiveRows.{interface-at}
use Rattle.table_view.proofs.find.iid.Goals as goal

pub returns : goal.returns
returns c =
    let ws = c.args.words.now in
    let i = c.args.i in
    rw (interface-at ws i no_interface c.requires.1, row_at-get_or interface_kind ws i 2 (omega arith), row_at-get_or interface_kind ws i 3 (omega arith))
