-- `write_block`: its fields are a run of writes.
use native.Mathlib.Omega.{arith}
use Rattle.fields.proofs.Fields.{first_field, then-field, then-guid}
use Rattle.reference_writer.specs.Writing.{block_bytes}
use Rattle.reference_writer.proofs.write_block.Goals as goal

pub returns : goal.returns
unfolding block_bytes
returns c =
    let b = c.args.block in
    let room = c.requires in
    let run = first_field 4 b.flags c.write_u32.ensures in
    let run2 = then-field 4 b.public run (omega arith) c.write_u32-2.ensures in
    let run3 = then-field 8 b.oxid.0 run2 (omega arith) c.write_u64.ensures in
    let run4 = then-field 8 b.oid.0 run3 (omega arith) c.write_u64-2.ensures in
    let run5 = then-guid b.ipid run4 (omega arith) c.write_guid.ensures in
    run5.holds
