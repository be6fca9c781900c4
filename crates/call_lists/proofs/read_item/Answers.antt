-- `call_lists::read_item`: the fields of an item stand in its part of the bytes.
use Rattle.call_lists.proofs.ItemSteps.{part-item}
use Rattle.call_lists.proofs.read_item.Goals as goal

pub returns : goal.returns
returns c = search part-item
