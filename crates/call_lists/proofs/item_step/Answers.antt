-- `call_lists::item_step`: the item's call is a step at its row.
use Rattle.call_lists.proofs.ItemSteps.{item_back, item-added}
use Rattle.call_lists.proofs.item_step.Goals as goal

pub returns-then-back : goal.returns-then-back
returns-then-back c = rw c.number.ensures (search item_back)

pub returns : goal.returns
returns c = rw c.number-2.ensures (search item-added)
