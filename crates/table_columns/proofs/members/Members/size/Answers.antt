-- `table_columns::members::Members::size`: the members are as many as the ones of both words.
use Rattle.std.proofs.Common.{sym, arith}
use Rattle.table_columns.proofs.members.Ones.{members-ones}
use Rattle.table_columns.proofs.members.Members.size.Goals as goal

pub returns : goal.returns
returns c = let g = c.well_formed in sym (members-ones c.args.self (omega arith, omega arith))
