-- `resolving::resolve_searched`: too many protocols, an exporter that is not live, then a filtered list that does not fit; else that list is written.
use mathlib.Core.Path.{◌≡◌, refl}
use borrow.Author.Rules.{rules}
use borrow.Author.Tests.{le-ltb}
use Rattle.std.specs.Prelude.{Err}
use Rattle.kinds.proofs.Answering.{refusal-not-0}
use Rattle.table_view.specs.View.{exporter_count}
use Rattle.table_view.proofs.Steps.{whole, row_below}
use Rattle.call_look.proofs.Taking.{lists-kept}
use Rattle.call_look.proofs.resolving.FilteredReplies.{too_many_lem, filtered-gone, filter-refuses, filter-writes}
use Rattle.call_look.proofs.resolving.resolve_searched.Goals as goal

pub returns-then-protocols-gt-MOST_LISTED : goal.returns-then-protocols-gt-MOST_LISTED
returns-then-protocols-gt-MOST_LISTED c = search too_many_lem

pub exporter_row-i-requires : goal.exporter_row-i-requires
exporter_row-i-requires c = search whole

pub exporter_count-requires : goal.exporter_count-requires
exporter_count-requires c = search whole

pub returns-then-exporter_count-i : goal.returns-then-exporter_count-i
returns-then-exporter_count-i c = search (filtered-gone, le-ltb)

pub list-list-requires : goal.list-list-requires
list-list-requires c = search (row_below exporter_count, lists-kept)

pub returns-in_err-length : goal.returns-in_err-length
returns-in_err-length c =
    let w = c.in_err-length.ensures in
    let few = le-ltb _ _ c.if-protocols-gt-MOST_LISTED.false in
    let r : c.from_residual.result ≡ Err c.in_err-length.field-0.0 = search rules in
    rw r
    (filter-refuses _ _ _ _ _ few _ _ c.exporter_count.ensures.0 c.if-exporter_count-i.false c.exporter_row-i.ensures c.requires _ c.list-list.ensures _ w.0 _ w.1
    (refusal-not-0 c.in_err-length.field-0.0))

pub unknown-requires : goal.unknown-requires
unknown-requires c = search (row_below exporter_count)

pub returns : goal.returns
returns c =
    let w = c.in_ok-length.ensures in
    let few = le-ltb _ _ c.if-protocols-gt-MOST_LISTED.false in
    filter-writes _ _ _ _ _ few _ _ c.exporter_count.ensures.0 c.if-exporter_count-i.false c.exporter_row-i.ensures c.requires _ c.list-list.ensures _ w.0 _ w.1
    refl _ c.unknown.ensures
