-- `rows::read_exporter`: an exporter is put where it fits.
use mathlib.Core.Path.{sym, ◌∙◌}
use native.Mathlib.Omega.{arith}
use Rattle.fields.specs.Fields.{field, guid_at}
use Rattle.rules.specs.Snapshot.{read_exporter}
use Rattle.snapshot_reader.proofs.rows.Reading.{list_read, exporter-after, room-made}
use Rattle.snapshot_reader.proofs.rows.read_exporter.Goals as goal

pub returns-then-not-has_room : goal.returns-then-not-has_room
unfolding read_exporter
returns-then-not-has_room c =
    let s = c.args.s.now in
    let l = list_read s _ _ _ c.read_u16-size.ensures c.within-from.ensures c.within-to.ensures in
    rw l at (sym (c.has_room.ensures (field s 0 8) (guid_at s 8)) ∙ c.if-not-has_room.true)

pub append_exporter-requires : goal.append_exporter-requires
append_exporter-requires c =
    let room = sym (c.has_room.ensures 0 (record { low = 0; high = 0 })) ∙ c.if-not-has_room.false in
    let r = room-made c.args.words.now c.args.store.now c.requires.2 _ room in
    (c.requires.0, c.requires.1, r.0, r.1, r.2)

pub returns : goal.returns
unfolding read_exporter
returns c =
    let s = c.args.s.now in
    let size = c.read_u16-size.ensures in
    let from = c.within-from.ensures in
    let to = c.within-to.ensures in
    let l = list_read s _ _ _ size from to in
    record {
      fit = rw l at (sym (c.has_room.ensures (field s 0 8) (guid_at s 8)) ∙ c.if-not-has_room.false);
      entries = rw (l, c.read_u64.ensures, c.read_guid-unknown.ensures) at c.append_exporter.ensures;
      rest = exporter-after s _ _ _ size from to;
      inside = omega arith;
    }
