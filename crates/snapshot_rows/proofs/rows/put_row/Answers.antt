-- `rows::put_row`: the writer of the section.
use Rattle.snapshot_rows.proofs.rows.put_row.Goals as goal

pub put_exporter-requires : goal.put_exporter-requires
put_exporter-requires c =
    let e = c.in-Exporters.is in
    (c.requires.0, rw e at c.requires.2, rw e at c.requires.3)

pub put_object-requires : goal.put_object-requires
put_object-requires c =
    let e = c.in-Objects.is in
    (c.requires.0.words, rw e at c.requires.2, rw e at c.requires.3)

pub put_interface-requires : goal.put_interface-requires
put_interface-requires c =
    let e = c.in-Interfaces.is in
    (c.requires.0.words, rw e at c.requires.2, rw e at c.requires.3)

pub put_set-requires : goal.put_set-requires
put_set-requires c =
    let e = c.in-Sets.is in
    (c.requires.1, rw e at c.requires.2, rw e at c.requires.3)

pub returns-in-Exporters : goal.returns-in-Exporters
returns-in-Exporters c = rw c.in-Exporters.is c.put_exporter.ensures

pub returns-in-Objects : goal.returns-in-Objects
returns-in-Objects c = rw c.in-Objects.is c.put_object.ensures

pub returns-in-Interfaces : goal.returns-in-Interfaces
returns-in-Interfaces c = rw c.in-Interfaces.is c.put_interface.ensures

pub returns-in-Sets : goal.returns-in-Sets
returns-in-Sets c = rw c.in-Sets.is c.put_set.ensures
