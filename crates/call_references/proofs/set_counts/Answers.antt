-- `call_references::set_counts`: one count is stored after the other.
use native.Mathlib.Omega.{arith}
use lib.ListN.{length-set}
use Rattle.call_references.proofs.TwoCounts.{both-counts, row_kept}
use borrow.Author.Rules.{rules}
use Rattle.call_references.proofs.set_counts.Goals as goal

pub store_count-requires-2 : goal.store_count-requires-2
store_count-requires-2 c = (search rules, search (row_kept, length-set), omega arith)

pub returns : goal.returns
returns = (λ c.
    both-counts _ _ c.requires.1 _ _ _ _ _ c.store_count.ensures c.store_count-2.ensures)
