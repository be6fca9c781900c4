-- `routing::next_stop_step`: the reference's refusal, a custom reference, then the exporter's list or the reference's own.
use mathlib.Core.Path.{◌≡◌, refl}
use borrow.Author.Rules.{rules}
use Rattle.std.specs.Prelude.{Err}
use Rattle.kinds.proofs.Answering.{refusal-not-0}
use Rattle.table_view.specs.View.{exporter_count}
use Rattle.table_view.proofs.Steps.{whole, row_below}
use Rattle.call_look.proofs.Taking.{lists-kept}
use Rattle.call_look.proofs.Stopping.{bad-reference, custom-form, live-exporter, no-exporter}
use Rattle.call_look.proofs.routing.next_stop_step.Goals as goal

pub returns-in_err-own : goal.returns-in_err-own
returns-in_err-own c =
    let r : c.from_residual.result ≡ Err c.in_err-own.field-0.0 = search rules in
    rw r (bad-reference _ _ _ c.requires _ c.in_err-own.ensures (refusal-not-0 c.in_err-own.field-0.0))

pub returns-then-named-eq-CUSTOM : goal.returns-then-named-eq-CUSTOM
returns-then-named-eq-CUSTOM c = custom-form _ _ _ c.requires _ c.in_ok-own.ensures refl _ c.fields-named.ensures c.if-named-eq-CUSTOM.true

pub exporter_row-i-requires : goal.exporter_row-i-requires
exporter_row-i-requires c = search whole

pub exporter_count-requires : goal.exporter_count-requires
exporter_count-requires c = search whole

pub in_store-requires : goal.in_store-requires
in_store-requires c = search (row_below exporter_count, lists-kept)

pub returns-then-i-exporter_count : goal.returns-then-i-exporter_count
returns-then-i-exporter_count c =
    rw c.in_store.ensures (live-exporter _ _ _ c.requires _ c.in_ok-own.ensures refl _ c.fields-named.ensures c.if-named-eq-CUSTOM.false _ _ c.exporter_count.ensures.0 c.if-i-exporter_count.true c.exporter_row-i.ensures)

pub returns : goal.returns
returns c =
    no-exporter _ _ _ c.requires _ c.in_ok-own.ensures refl _ c.fields-named.ensures c.if-named-eq-CUSTOM.false _ _ c.exporter_count.ensures.0 c.if-i-exporter_count.false c.exporter_row-i.ensures
