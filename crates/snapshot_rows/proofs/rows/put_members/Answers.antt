-- `rows::put_members`: what is left from row k on is the whole.
use native.Mathlib.Omega.{arith}
use Rattle.table_view.specs.View.{object_count}
use Rattle.snapshot_rows.specs.Rows.{member_bytes_at}
use Rattle.snapshot_rows.proofs.Writing.{left-all, left-none, row-end, next-live, next-room, next-put}
use Rattle.snapshot_rows.proofs.rows.put_members.Goals as goal

pub put_member-next-requires : goal.put_member-next-requires
put_member-next-requires c =
    let l = c.loop-row in
    let rows = c.args.rows.now in
    let row = member_bytes_at c.args.words.now c.args.members in
    let n = object_count c.args.words.now in
    (c.requires.0, next-live row rows n c.requires.1 l.row-index (omega arith), next-room row rows n c.requires.1 l.row-index (omega arith) c.requires.2 l.invariant)

pub loop-row-preserved : goal.loop-row-preserved
loop-row-preserved c =
    let l = c.loop-row in
    let rows = c.args.rows.now in
    let row = member_bytes_at c.args.words.now c.args.members in
    next-put row rows (object_count c.args.words.now) c.requires.1 l.row-index (omega arith) c.requires.2 l.invariant c.put_member-next.ensures

pub returns : goal.returns
returns c =
    let l = c.loop-row in
    left-none (row-end _ c.args.rows.now l.row-index (omega arith)) l.invariant

pub loop-row-init : goal.loop-row-init
loop-row-init c = left-all _ _ _
