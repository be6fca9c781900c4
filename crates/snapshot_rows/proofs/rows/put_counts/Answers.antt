-- `rows::put_counts`: what is left from count k on is the whole.
use mathlib.Core.Path.{refl}
use native.Mathlib.Omega.{arith}
use Rattle.snapshot_rows.specs.Rows.{count_bytes_at}
use lib.ListN.{get_or}
use Rattle.fields.proofs.Fields.{length-encode}
use Rattle.rules.specs.Entries.{count_of}
use Rattle.rules.specs.Rules.{no_interface}
use Rattle.table_view.specs.View.{interfaces_of}
use Rattle.snapshot_rows.proofs.Writing.{left-all, left-same, left_step, left-none, left-room}
use Rattle.snapshot_rows.proofs.rows.FieldByField.{wrote-number, numbered_next, numbered-end}
use Rattle.snapshot_rows.proofs.rows.put_counts.Goals as goal

pub overflow_add-next : goal.overflow_add-next
overflow_add-next c =
    let l = c.loop-k in
    let row = count_bytes_at c.args.words.now c.args.i in
    let left = left-same (numbered_next row 9 l.k (omega arith)) l.invariant in
    let room = left-room (row l.k) _ c.requires.2 left in
    let n = length-encode 4 (count_of l.k (get_or (interfaces_of c.args.words.now) c.args.i no_interface)) in
    omega arith

pub loop-k-preserved : goal.loop-k-preserved
loop-k-preserved c =
    let l = c.loop-k in
    let row = count_bytes_at c.args.words.now c.args.i in
    let left = left-same (numbered_next row 9 l.k (omega arith)) l.invariant in
    left_step (row l.k) _ c.requires.2 left (wrote-number 4 c.count.ensures c.write_u32.ensures refl)

pub returns : goal.returns
returns c =
    let l = c.loop-k in
    left-none (numbered-end _ 9 l.k (omega arith)) l.invariant

pub loop-k-init : goal.loop-k-init
loop-k-init c = left-all _ _ _
