-- `find::object_exporter`: a word of the object's row.
use mathlib.Core.Path.{sym, ap, ◌∙◌}
use native.Mathlib.Omega.{arith}
use Rattle.table_columns.proofs.rows.Laws.{row_at-get_or}
use Rattle.rules.specs.Entries.{Object}
use Rattle.rules.specs.Rules.{no_object}
use Rattle.table_words.specs.Kinds.{object_kind}
use Rattle.table_view.proofs.LiveRows.{object-at}
use Rattle.table_view.proofs.find.object_exporter.Goals as goal

pub returns : goal.returns
returns c =
    let ws = c.args.words.now in
    let i = c.args.i in
    sym (ap (λ (r : Object). r.exporter) (object-at ws i no_object c.requires.1) ∙ row_at-get_or object_kind ws i 1 (omega arith))
