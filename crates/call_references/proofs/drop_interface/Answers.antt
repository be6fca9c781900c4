-- `call_references::drop_interface`: the row goes, and the object's own where no interface is left of it.
use Rattle.call_references.proofs.Dropping.{row-live, members-below, oids-distinct, object-kept, object-gone}
use borrow.Author.Rules.{rules}
use Rattle.call_references.proofs.drop_interface.Goals as goal

pub returns-then-is_served : goal.returns-then-is_served
returns-then-is_served = (λ c s. search object-kept)

pub remove_object-requires : goal.remove_object-requires
remove_object-requires c = (search rules, search row-live, search members-below, search oids-distinct)

pub returns : goal.returns
returns = (λ c s. search object-gone)
