-- `call_lists::row_of`: an IPID whose bucket has no number has no row; any row may be tried first.
use Rattle.call_lists.proofs.Unknown.{unknown-row}
use Rattle.call_lists.proofs.row_of.Goals as goal

pub returns-then-number-eq0 : goal.returns-then-number-eq0
returns-then-number-eq0 c = search unknown-row

pub returns-then-is_row : goal.returns-then-is_row
returns-then-is_row c = c.is_row.ensures c.if-is_row.true
