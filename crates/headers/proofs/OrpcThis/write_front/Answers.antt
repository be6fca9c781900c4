-- `OrpcThis::write_front`: the fields are a run of writes from the front.
use native.Mathlib.Omega.{arith}
use Rattle.fields.specs.Fields.{encode}
use Rattle.fields.proofs.Fields.{first_field, then-field, then-guid}
use Rattle.headers.specs.Headers.{this_front}
use Rattle.headers.proofs.OrpcThis.write_front.Goals as goal

pub returns : goal.returns
unfolding this_front encode
returns c =
    let h = c.args.self in
    let room = c.requires in
    let run = first_field 2 5 c.write_u16.ensures in
    let run2 = then-field 2 h.minor run (omega arith) c.write_u16-2.ensures in
    let run3 = then-field 4 h.flags run2 (omega arith) c.write_u32.ensures in
    let run4 = then-field 4 0 run3 (omega arith) c.write_u32-2.ensures in
    (then-guid h.causality run4 (omega arith) c.write_guid.ensures).holds
