-- `call_lists::count_items`: the items are done from the left.
use Rattle.call_lists.proofs.Unknown.{indexed-next}
use Rattle.call_lists.proofs.Loop.{going-none, going_next, going-all}
use Rattle.call_lists.proofs.count_items.Goals as goal

pub follow_row-live-requires : goal.follow_row-live-requires
follow_row-live-requires c =
    indexed-next c.item_step-number.ensures c.loop-k.invariant.index

pub loop-k-init : goal.loop-k-init
loop-k-init c = search going-none

pub loop-k-preserved : goal.loop-k-preserved
loop-k-preserved c = search going_next

pub returns : goal.returns
returns c = search going-all
