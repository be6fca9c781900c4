-- `rows::put_interface`: field by field.
use native.Mathlib.Omega.{arith}
use lib.ListN.{get_or}
use Rattle.rules.specs.Rules.{no_interface}
use Rattle.table_view.specs.View.{interfaces_of}
use Rattle.table_view.proofs.Counts.{nine-counts}
use Rattle.snapshot_rows.proofs.rows.FieldByField.{counts-room, interface-put}
use Rattle.snapshot_rows.proofs.rows.put_interface.Goals as goal

pub put_counts-requires : goal.put_counts-requires
put_counts-requires c =
    let x = get_or (interfaces_of c.args.words.now) c.args.i no_interface in
    let nine = nine-counts c.args.words.now c.args.i c.requires.1 in
    (c.requires.0, c.requires.1, counts-room x nine c.args.buffer.now c.write_u64.new.buf c.args.at c.requires.2 (omega arith))

pub returns : goal.returns
returns c =
    let ws = c.args.words.now in
    interface-put (get_or (interfaces_of ws) c.args.i no_interface) (nine-counts ws c.args.i c.requires.1) c.requires.2
    c.ipid.ensures c.iid.ensures c.interface_object-object.ensures
    c.write_guid.ensures c.write_guid-2.ensures
    c.write_u64.ensures c.put_counts.ensures
