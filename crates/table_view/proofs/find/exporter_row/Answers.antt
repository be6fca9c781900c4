-- `find::exporter_row`: the identifiers are searched.
use mathlib.Core.Path.{ap, ◌∙◌}
use lib.Dec.{eqb}
use Rattle.lists.specs.Lists.{first_index}
use Rattle.table_view.proofs.find.exporter_row.Goals as goal

pub returns : goal.returns
returns c s = c.index_of.ensures ∙ ap (first_index (eqb c.args.oxid.0)) (c.oxids.ensures s)
