-- `write_header`: its fields are a run of writes.
use native.Mathlib.Omega.{arith}
use Rattle.fields.proofs.Fields.{first_field, then-field, then-guid}
use Rattle.reference_writer.specs.Writing.{header_bytes}
use Rattle.elements.specs.Elements.{signature}
use Rattle.reference_writer.proofs.write_header.Goals as goal

pub returns : goal.returns
unfolding header_bytes
returns c =
    let r = c.args.reference in
    let room = c.requires in
    let run = first_field 4 signature c.write_u32.ensures in
    let run2 = then-field 4 r.flags run (omega arith) c.write_u32-2.ensures in
    let run3 = then-guid r.iid run2 (omega arith) c.write_guid.ensures in
    run3.holds
