-- `resolving::resolve_step`: an exporter that is not live is refused, then a list that does not fit; else the list is copied.
use Rattle.table_view.specs.View.{exporter_count}
use Rattle.table_view.proofs.Steps.{whole, row_below}
use Rattle.call_look.proofs.Taking.{lists-kept}
use Rattle.call_look.proofs.resolving.Resolving.{plain, gone, no_room, copied}
use Rattle.call_look.proofs.resolving.resolve_step.Goals as goal

pub exporter_row-i-requires : goal.exporter_row-i-requires
exporter_row-i-requires c = search whole

pub exporter_count-requires : goal.exporter_count-requires
exporter_count-requires c = search whole

pub returns-then-exporter_count-i : goal.returns-then-exporter_count-i
returns-then-exporter_count-i c = search (gone plain)

pub list-list-requires : goal.list-list-requires
list-list-requires c = search (row_below exporter_count, lists-kept)

pub returns-then-buffer-list : goal.returns-then-buffer-list
returns-then-buffer-list c = search (no_room plain)

pub unknown-requires : goal.unknown-requires
unknown-requires c = search (row_below exporter_count)

pub returns : goal.returns
returns c = search (copied plain)
