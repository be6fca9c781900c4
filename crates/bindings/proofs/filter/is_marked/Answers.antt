-- `filter::is_marked`: the bit of the number.
use borrow.Author.Rules.{rules}
use Rattle.bindings.specs.Filter.{is_marked}
use Rattle.bindings.proofs.filter.is_marked.Goals as goal

pub returns : goal.returns
unfolding is_marked
returns c = search rules
