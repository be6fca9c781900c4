-- `fields::read_u32`: what `bytes_at` gives, decoded.
use Rattle.std.specs.Int.{w32, from_le_bytes}
use Rattle.fields.proofs.Fields.{read-field, number_4}
use Rattle.fields.proofs.read_u32.Goals as goal

pub returns : goal.returns
returns c =
    let a = c.args in read-field c.bytes_at.result (from_le_bytes w32) a.s.now a.at 4 c.map_or.result number_4 c.bytes_at.ensures c.map_or.ensures
