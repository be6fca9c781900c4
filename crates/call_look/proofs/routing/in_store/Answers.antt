-- `routing::in_store`: an exporter's list stands where the lists before it end.
use Rattle.call_look.proofs.Stopping.{start-within, end_fits}
use Rattle.call_look.proofs.routing.in_store.Goals as goal

pub list_start-from-requires : goal.list_start-from-requires
list_start-from-requires c = search start-within

pub overflow_add-result : goal.overflow_add-result
overflow_add-result c = search end_fits

pub returns : goal.returns
returns c = rw (c.list.ensures, c.list_start-from.ensures)
