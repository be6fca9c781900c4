-- `table_columns::has_guid_from`: the rows from an index on are those of the columns from there on.
use Rattle.table_columns.proofs.GuidColumns.{guids-drop}
use Rattle.table_columns.proofs.has_guid_from.Goals as goal

pub returns : goal.returns
returns c = let v = c.args in rw (guids-drop v.from v.lows.now v.highs.now) (rw (c.rest.ensures, c.rest-2.ensures) at c.has_guid.ensures)
