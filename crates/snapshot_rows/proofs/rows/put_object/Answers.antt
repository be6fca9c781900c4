-- `rows::put_object`: field by field.
use Prim.Native.Nat.{◌+◌, ◌<◌}
use lib.ListN.{length, get_or}
use native.Mathlib.Omega.{arith}
use Rattle.rules.specs.Rules.{no_object}
use Rattle.rules.proofs.SnapshotSizes.{object-size}
use Rattle.table_view.specs.View.{objects_of}
use Rattle.snapshot_rows.proofs.rows.FieldByField.{flag-put, object-put}
use Rattle.snapshot_rows.proofs.rows.put_object.Goals as goal

pub bounds-buffer-at : goal.bounds-buffer-at
bounds-buffer-at c =
    let n = object-size (get_or (objects_of c.args.words.now) c.args.i no_object) in
    let r = c.requires.2 in
    let k = c.write_u64.auto in
    let l = c.write_u64-2.auto in
    omega arith

pub returns : goal.returns
returns c =
    let n = object-size (get_or (objects_of c.args.words.now) c.args.i no_object) in
    let r = c.requires.2 in
    let k = c.write_u64.auto in
    let l = c.write_u64-2.auto in
    let b : c.args.at + 16 < length c.write_u64-2.new.buf = omega arith in
    object-put (get_or (objects_of c.args.words.now) c.args.i no_object) _ _ _ _ _ c.args.at _ _ _ _ c.requires.2 c.oid-oid.ensures c.object_exporter-exporter.ensures
    c.is_unpinged.ensures c.heard.ensures c.write_u64.ensures c.write_u64-2.ensures (flag-put _ _ c.is_unpinged.result c.from.ensures b) c.write_u64-3.ensures
