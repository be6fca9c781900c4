-- `rows::put_exporter`: field by field.
use Prim.Native.Nat.{ℕ, ◌+◌, ◌≤◌}
use mathlib.Core.Path.{◌≡◌, ap}
use mathlib.Core.List.{List}
use native.Mathlib.Omega.{arith}
use lib.ListN.{length, get_or}
use Rattle.rules.specs.Rules.{no_exporter}
use Rattle.rules.specs.Entries.{Exporter}
use Rattle.rules.specs.Snapshot.{exporter_bytes}
use Rattle.rules.proofs.SnapshotSizes.{exporter-size}
use Rattle.table_view.specs.View.{exporters_of}
use Rattle.snapshot_rows.specs.Writing.{Room}
use Rattle.snapshot_rows.proofs.rows.FieldByField.{exporter-put, list-short}
use Rattle.rules.proofs.SoundLaws.{sound-fields}
use Rattle.snapshot_rows.proofs.rows.put_exporter.Goals as goal

-- the bytes end within the buffer
ends : (x : Exporter) (b list : List ℕ) (at : ℕ) → Room b at (exporter_bytes x) → list ≡ x.bindings → at + 26 + length list ≤ length b
ends x b list at room e =
    let n = exporter-size x in
    let l = ap length e in
    omega arith

pub list-list-requires : goal.list-list-requires
list-list-requires c = (c.requires.0.store, c.requires.1, (sound-fields _ c.requires.0.entries).lists_kept)

pub returns : goal.returns
returns c =
    let s = c.args.store.now in
    exporter-put (get_or (exporters_of c.args.words.now s) c.args.i no_exporter) c.requires.2
    (c.oxid-oxid.ensures s) (c.unknown-unknown.ensures s) c.list-list.ensures
    c.write_u64.ensures c.write_guid.ensures c.write_u16.ensures c.copy.ensures

pub overflow_cast-list : goal.overflow_cast-list
overflow_cast-list c =
    let e = ap length c.list-list.ensures in
    let h = list-short c.args.words.now c.args.store.now c.args.i c.requires.1 (sound-fields _ c.requires.0.entries).lists_kept in
    omega arith

pub overflow_add-result : goal.overflow_add-result
overflow_add-result c = let h = ends _ _ _ _ c.requires.2 c.list-list.ensures in omega arith

pub overflow_add-result-2 : goal.overflow_add-result-2
overflow_add-result-2 c = let h = ends _ _ _ _ c.requires.2 c.list-list.ensures in omega arith
