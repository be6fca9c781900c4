-- `rows::put_set`: field by field.
use native.Mathlib.Omega.{arith}
use lib.ListN.{get_or}
use Rattle.rules.specs.Rules.{no_set}
use Rattle.rules.specs.Snapshot.{members_in_order}
use Rattle.rules.proofs.SnapshotSizes.{set-size}
use Rattle.table_view.specs.View.{sets_of}
use Rattle.table_view.proofs.LiveRows.{objects-length}
use Rattle.snapshot_rows.specs.Rows.{rising_oids}
use Rattle.snapshot_rows.proofs.rows.FieldByField.{members-room, set-put}
use Rattle.snapshot_rows.proofs.rows.MembersInOrder.{few-members, members-row}
use Rattle.snapshot_rows.proofs.rows.put_set.Goals as goal

pub overflow_cast-size : goal.overflow_cast-size
overflow_cast-size c =
    let b = few-members c.members-members.result in
    let e = c.size.ensures in
    omega arith

pub overflow_add-at-4 : goal.overflow_add-at-4
overflow_add-at-4 c =
    let n = set-size (members_in_order (rising_oids c.args.words.now) (get_or (sets_of c.args.words.now) c.args.i no_set)) in
    let r = c.requires.2 in
    omega arith

pub put_members-requires : goal.put_members-requires
put_members-requires c =
    let ws = c.args.words.now in
    let x = members_in_order (rising_oids ws) (get_or (sets_of ws) c.args.i no_set) in (
      c.requires.0.whole,
      (rw (objects-length ws) at c.requires.0.order.live),
      (rw (c.members-members.ensures, members-row ws c.args.rows.now c.requires.0 c.args.i c.requires.1)
          (members-room x c.args.buffer.now c.write_u16-2.new.buf c.args.at c.requires.2 (omega arith))),
    )

pub returns : goal.returns
returns c =
    set-put c.args.words.now c.args.rows.now c.args.i c.requires.0 c.requires.1 c.requires.2
    c.set_number-number.ensures c.sequence.ensures c.pinged.ensures c.members-members.ensures c.size.ensures
    c.write_u64.ensures c.write_u16.ensures c.write_u64-2.ensures
    c.write_u16-2.ensures c.put_members.ensures
