-- `find::pinged`: a word of the set's row.
use mathlib.Core.Path.{sym, ap, ◌∙◌}
use native.Mathlib.Omega.{arith}
use Rattle.table_columns.proofs.rows.Laws.{row_at-get_or}
use Rattle.rules.specs.Entries.{PingSet}
use Rattle.rules.specs.Rules.{no_set}
use Rattle.table_words.specs.Kinds.{set_kind}
use Rattle.table_view.proofs.LiveRows.{set_at}
use Rattle.table_view.proofs.find.pinged.Goals as goal

pub returns : goal.returns
returns c =
    let ws = c.args.words.now in
    let i = c.args.i in
    sym (ap (λ (r : PingSet). r.pinged) (set_at ws i no_set c.requires.1) ∙ row_at-get_or set_kind ws i 2 (omega arith))
