-- `resolving::resolve_marked`: an exporter that is not live; else the step by the marked towers that its list has.
use mathlib.Core.Path.{sym}
use lib.Seq.{length-take-le}
use Rattle.table_view.specs.View.{exporter_count}
use Rattle.table_view.proofs.Steps.{whole, row_below}
use Rattle.call_look.proofs.Taking.{lists-kept}
use Rattle.call_look.proofs.resolving.FilteredReplies.{good-list, towers-fit, filtered-gone, towers-alike}
use borrow.Author.Rules.{rules}
use Rattle.call_look.proofs.resolving.resolve_marked.Goals as goal

pub exporter_row-i-requires : goal.exporter_row-i-requires
exporter_row-i-requires c = search whole

pub exporter_count-requires : goal.exporter_count-requires
exporter_count-requires c = search whole

pub returns-then-exporter_count-i : goal.returns-then-exporter_count-i
returns-then-exporter_count-i = (λ c ps few marked. search filtered-gone)

pub list-list-requires : goal.list-list-requires
list-list-requires c = search (row_below exporter_count, lists-kept)

pub requested_towers-n-requires : goal.requested_towers-n-requires
requested_towers-n-requires c = search (good-list, towers-fit)

pub slice_bounds-resolve_searched-end : goal.slice_bounds-resolve_searched-end
slice_bounds-resolve_searched-end c = sym (length-take-le _ _ (search rules))

pub returns : goal.returns
returns = (λ c ps few marked. search towers-alike)
