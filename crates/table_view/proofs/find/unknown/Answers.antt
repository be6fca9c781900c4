-- `find::unknown`: two words of the exporter's row.
use native.Mathlib.Omega.{arith}
use Rattle.table_columns.proofs.rows.Laws.{row_at-get_or}
use Rattle.rules.specs.Rules.{no_exporter}
use Rattle.table_words.specs.Kinds.{exporter_kind}
use Rattle.table_view.proofs.LiveRows.{exporter-at}
use Rattle.table_view.proofs.find.unknown.Goals as goal

pub returns : goal.returns
returns c s =
    let ws = c.args.words.now in
    let i = c.args.i in
    rw (exporter-at ws s i no_exporter c.requires.1, row_at-get_or exporter_kind ws i 1 (omega arith), row_at-get_or exporter_kind ws i 2 (omega arith))
