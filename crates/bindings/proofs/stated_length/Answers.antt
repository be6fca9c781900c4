-- `bindings::stated_length`: N is read at the front.
use borrow.Author.Rules.{rules}
use Rattle.bindings.specs.Bindings.{list_length}
use Rattle.bindings.proofs.stated_length.Goals as goal

pub returns : goal.returns
unfolding list_length
returns c = search rules
