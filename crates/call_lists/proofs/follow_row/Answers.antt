-- `call_lists::follow_row`: a number that moves stays a number.
use borrow.Author.Rules.{rules}
use Rattle.call_lists.proofs.Index.{indexed-moved}
use Rattle.call_lists.proofs.follow_row.Goals as goal

pub loop-number-preserved : goal.loop-number-preserved
loop-number-preserved c = search (rules, indexed-moved)
