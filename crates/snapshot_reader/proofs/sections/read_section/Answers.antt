-- `sections::read_section`: what is left of the rows, from here on, is all of them (`RowsLeft`).
use native.Mathlib.Omega.{arith}
use Rattle.fields.proofs.Fields.{take_rest}
use Rattle.table_view.specs.View.{memory, view}
use Rattle.snapshot_reader.proofs.sections.RowByRow.{row-off, row-stops, rows-begun, rows-ended}
use Rattle.snapshot_reader.proofs.sections.read_section.Goals as goal

pub loop-i-init : goal.loop-i-init
loop-i-init c =
    let a = c.args in (
      c.requires.0,
      c.requires.1,
      rows-begun a.section a.s.now _ a.at c.within-next.result (view (memory a.words.now a.store.now)) c.read_u16-n.ensures c.within-next.ensures c.requires.4,
    )

pub returns-in_err-next : goal.returns-in_err-next
returns-in_err-next c =
    let l = c.loop-i in
    rw c.from_residual.ensures (row-stops l.invariant.2 (omega arith) (rw (take_rest c.args.s.now l.next) at c.in_err-next.ensures))

pub loop-i-preserved : goal.loop-i-preserved
loop-i-preserved c =
    let l = c.loop-i in
    let h = rw (take_rest c.args.s.now l.next) at c.in_ok-next.ensures in
    let w = l.invariant.0 in
    let b = l.invariant.1 in
    (omega arith, omega arith, row-off l.invariant.2 (omega arith) h)

pub returns : goal.returns
returns c =
    let a = c.args in
    let l = c.loop-i in
    rows-ended a.section a.s.now a.at (view (memory a.words.now a.store.now)) _ l._i l.next _ l.invariant.2 (omega arith)
