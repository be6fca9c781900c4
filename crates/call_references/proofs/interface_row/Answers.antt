-- `call_references::interface_row`: the row that is tried, where it has the IPID.
use Rattle.call_references.proofs.interface_row.Goals as goal

pub returns-then-is_row : goal.returns-then-is_row
returns-then-is_row c = c.is_row.ensures c.if-is_row.true
