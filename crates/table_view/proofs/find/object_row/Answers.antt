-- `find::object_row`: the identifiers are searched.
use mathlib.Core.Path.{ap, ◌∙◌}
use lib.Dec.{eqb}
use Rattle.lists.specs.Lists.{first_index}
use Rattle.table_view.proofs.find.object_row.Goals as goal

pub returns : goal.returns
returns c s = c.index_of.ensures ∙ ap (first_index (eqb c.args.oid.0)) c.oids.ensures
