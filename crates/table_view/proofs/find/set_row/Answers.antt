-- `find::set_row`: the identifiers are searched.
use mathlib.Core.Path.{ap, ◌∙◌}
use lib.Dec.{eqb}
use Rattle.lists.specs.Lists.{first_index}
use Rattle.table_view.proofs.find.set_row.Goals as goal

pub returns : goal.returns
returns c s = c.index_of.ensures ∙ ap (first_index (eqb c.args.set.0)) c.set_numbers.ensures
