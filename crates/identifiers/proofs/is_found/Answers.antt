-- `identifiers::is_found`: a word that is there has a row.
use Rattle.std.proofs.Common.{◌∙◌}
use Rattle.identifiers.proofs.Laws.{row-tells}
use Rattle.identifiers.proofs.is_found.Goals as goal

pub returns : goal.returns
returns c = c.is_some.ensures ∙ row-tells c.args.x c.args.col.now _ c.row_of.ensures
