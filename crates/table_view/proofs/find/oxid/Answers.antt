-- `find::oxid`: a word of the exporter's row.
use mathlib.Core.Path.{sym, ap, ◌∙◌}
use native.Mathlib.Omega.{arith}
use Rattle.table_columns.proofs.rows.Laws.{row_at-get_or}
use Rattle.rules.specs.Entries.{Exporter}
use Rattle.rules.specs.Rules.{no_exporter}
use Rattle.table_words.specs.Kinds.{exporter_kind}
use Rattle.table_view.proofs.LiveRows.{exporter-at}
use Rattle.table_view.proofs.find.oxid.Goals as goal

pub returns : goal.returns
returns c s =
    let ws = c.args.words.now in
    let i = c.args.i in
    sym (ap (λ (r : Exporter). r.oxid) (exporter-at ws s i no_exporter c.requires.1) ∙ row_at-get_or exporter_kind ws i 0 (omega arith))
