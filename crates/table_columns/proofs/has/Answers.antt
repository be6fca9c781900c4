-- `table_columns::has`: the search's answer, as lists say it.
use Rattle.std.proofs.Common.{◌∙◌}
use Rattle.table_columns.proofs.Chains.{any-among}
use Rattle.table_columns.proofs.has.Goals as goal

pub returns : goal.returns
returns c = let v = c.args in c.contains.ensures.value ∙ any-among v.x v.col.now
