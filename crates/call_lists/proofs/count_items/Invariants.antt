use Rattle.table_view.specs.View.{memory}
use Rattle.call_lists.specs.Listing.{way_of}
use Rattle.call_lists.proofs.Loop.{Going}
use Rattle.call_lists.proofs.count_items.Given as goal

abbrev pub invariant-loop-k : goal.invariant-loop-k
invariant-loop-k l =
    Going (way_of l.back) l.client l.items l.initial.buffer (memory l.initial.words l.store) l.k l.buffer l.rows (memory l.words l.store)
