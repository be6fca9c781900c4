-- `table_columns::has_guid`: the search ends before the end where g is there.
use Rattle.lists.specs.Guids.{same_guid}
use Rattle.lists.proofs.First.{some_first}
use Rattle.table_columns.specs.Guids.{guids}
use Rattle.table_columns.proofs.GuidColumns.{length-guids}
use Rattle.table_columns.proofs.has_guid.Goals as goal

pub returns : goal.returns
returns c =
    let v = c.args in
    rw (c.guid_index_of.ensures, ← length-guids v.lows.now v.highs.now) (some_first (same_guid v.g) (guids v.lows.now v.highs.now))
