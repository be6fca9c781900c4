-- `sections::put_section`: the count, then what is left from row k on is all of the rows.
use native.Mathlib.Omega.{arith}
use Rattle.snapshot_rows.proofs.Writing.{left-all}
use Rattle.call_save.proofs.sections.SectionRows.{rows_few, Counted, count-put, count-inside, row_room, row_put, rows-put}
use Rattle.call_save.proofs.sections.put_section.Goals as goal

pub overflow_cast-rows : goal.overflow_cast-rows
overflow_cast-rows c = search rows_few

pub overflow_add-next : goal.overflow_add-next
overflow_add-next c =
    let counted : let a = c.args in Counted a.section a.words.now a.store.now a.rows.now a.buffer.now a.at c.write_u16.new.buf = search count-put in
    let p = count-inside (counted) in omega arith

pub loop-row-init : goal.loop-row-init
loop-row-init c = left-all _ _ _

pub put_row-next-requires : goal.put_row-next-requires
put_row-next-requires c =
    let counted : let a = c.args in Counted a.section a.words.now a.store.now a.rows.now a.buffer.now a.at c.write_u16.new.buf = search count-put in
    let l = c.loop-row in
    let q = row_room (counted) l.row-index l.invariant (omega arith) in
    (search, search, q.0, q.1)

pub loop-row-preserved : goal.loop-row-preserved
loop-row-preserved c =
    let counted : let a = c.args in Counted a.section a.words.now a.store.now a.rows.now a.buffer.now a.at c.write_u16.new.buf = search count-put in
    let l = c.loop-row in
    row_put (counted) l.row-index l.invariant (omega arith) c.put_row-next.ensures

pub returns : goal.returns
returns c =
    let counted : let a = c.args in Counted a.section a.words.now a.store.now a.rows.now a.buffer.now a.at c.write_u16.new.buf = search count-put in
    let l = c.loop-row in rows-put (counted) l.row-index l.invariant (omega arith)
