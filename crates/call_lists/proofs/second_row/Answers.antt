-- `call_lists::second_row`: any row may be tried first.
use Rattle.call_lists.proofs.second_row.Goals as goal

pub returns-then-is_row : goal.returns-then-is_row
returns-then-is_row c = c.is_row.ensures c.if-is_row.true
