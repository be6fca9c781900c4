-- `find::interface_row`: the IPIDs of the interfaces are two columns.
use mathlib.Core.Path.{ap, ◌∙◌}
use Rattle.lists.specs.Lists.{first_index}
use Rattle.lists.specs.Guids.{same_guid}
use Rattle.table_view.proofs.Columns.{ipids-read}
use Rattle.table_view.proofs.find.interface_row.Goals as goal

pub returns : goal.returns
returns c s =
    c.guid_index_of.ensures
    ∙ ap (first_index (same_guid c.args.ipid)) (ipids-read c.args.words.now c.requires c.ipid_lows.ensures c.ipid_highs.ensures)
