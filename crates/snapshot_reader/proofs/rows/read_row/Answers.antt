-- `rows::read_row`: the reader of the section.
use Rattle.snapshot_reader.specs.ReadRows.{fits}
use Rattle.snapshot_reader.proofs.rows.read_row.Goals as goal

pub read_exporter-requires : goal.read_exporter-requires
read_exporter-requires c =
    (c.requires.0, c.requires.1, rw c.in-Exporters.is at c.requires.2)

pub read_object-requires : goal.read_object-requires
unfolding fits
read_object-requires c =
    let h = rw c.in-Objects.is at c.requires.2 in
    (c.requires.0, λ t. h)

pub read_set-requires : goal.read_set-requires
unfolding fits
read_set-requires c =
    let h = rw c.in-Sets.is at c.requires.2 in
    (c.requires.0, λ t. h)

pub returns-in-Exporters : goal.returns-in-Exporters
returns-in-Exporters c = rw c.in-Exporters.is c.read_exporter.ensures

pub returns-in-Objects : goal.returns-in-Objects
returns-in-Objects c = rw c.in-Objects.is (c.read_object.ensures _)

pub returns-in-Interfaces : goal.returns-in-Interfaces
returns-in-Interfaces c = rw c.in-Interfaces.is (c.read_interface.ensures _)

pub returns-in-Sets : goal.returns-in-Sets
returns-in-Sets c = rw c.in-Sets.is (c.read_set.ensures _)
