-- `call_lists::note_rows`: what is noted is not 0.
use borrow.Author.Rules.{rules}
use Rattle.call_lists.proofs.Index.{indexed-noted}
use Rattle.call_lists.proofs.note_rows.Goals as goal

pub loop-i-preserved : goal.loop-i-preserved
loop-i-preserved c = search (rules, indexed-noted)
