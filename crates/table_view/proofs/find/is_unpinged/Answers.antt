-- `find::is_unpinged`: a word of the object's row.
use native.Mathlib.Omega.{arith}
use Rattle.table_columns.proofs.rows.Laws.{row_at-get_or}
use Rattle.rules.specs.Rules.{no_object}
use Rattle.table_words.specs.Kinds.{object_kind}
use Rattle.table_view.proofs.LiveRows.{object-at}
use Rattle.table_view.proofs.find.is_unpinged.Goals as goal

pub returns : goal.returns
returns c =
    let ws = c.args.words.now in
    let i = c.args.i in
    rw (object-at ws i no_object c.requires.1, row_at-get_or object_kind ws i 2 (omega arith))
