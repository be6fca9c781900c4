-- `find::interface_object`: a word of the interface's row.
use mathlib.Core.Path.{sym, ap, ◌∙◌}
use native.Mathlib.Omega.{arith}
use Rattle.table_columns.proofs.rows.Laws.{row_at-get_or}
use Rattle.rules.specs.Entries.{Interface}
use Rattle.rules.specs.Rules.{no_interface}
use Rattle.table_words.specs.Kinds.{interface_kind}
use Rattle.table_view.proofs.LiveRows.{interface-at}
use Rattle.table_view.proofs.find.interface_object.Goals as goal

pub returns : goal.returns
returns c =
    let ws = c.args.words.now in
    let i = c.args.i in
    sym (ap (λ (r : Interface). r.object) (interface-at ws i no_interface c.requires.1) ∙ row_at-get_or interface_kind ws i 4 (omega arith))
