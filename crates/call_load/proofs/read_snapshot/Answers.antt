-- `call_load::read_snapshot`: read, judged, compared.
use mathlib.Core.Path.{sym, ◌∙◌}
use native.Mathlib.Omega.{arith}
use Rattle.table_view.proofs.Steps.{sound-table}
use Rattle.call_load.proofs.Loading.{lent, not-read, not_sound, read-sound}
use Rattle.call_load.proofs.read_snapshot.Goals as goal

pub returns-then-not-read_table : goal.returns-then-not-read_table
returns-then-not-read_table c =
    not-read _ _ _ c.read_table.ensures c.if-not-read_table.true

pub returns-then-not-sound : goal.returns-then-not-sound
returns-then-not-sound c =
    let h = c.read_table in
    let w = c.requires.0 in
    let b = c.requires.1 in
    not_sound _ h.new.words h.new.store _ h.ensures c.if-not-read_table.false (omega arith) (omega arith)
    (sym c.sound.ensures ∙ c.if-not-sound.true)

pub returns : goal.returns
returns c =
    let h = c.read_table in
    let t = sound-table c.sound.ensures c.if-not-sound.false-raw in
    read-sound _ h.new.words h.new.store _ h.ensures c.if-not-read_table.false t
    (lent h.new.words h.new.store t (λ i. let z = c.slice_known-3-1.given i in omega arith)
    (λ i. let z = c.slice_known-4-1.given i in omega arith))
    (λ i. let z = c.shared_slice_known-1.given i in omega arith)
    _ c.is_snapshot_of.ensures

pub is_snapshot_of-requires : goal.is_snapshot_of-requires
is_snapshot_of-requires c = sound-table c.sound.ensures c.if-not-sound.false-raw
