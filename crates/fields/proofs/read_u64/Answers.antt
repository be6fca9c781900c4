-- `fields::read_u64`: what `bytes_at` gives, decoded.
use Rattle.std.specs.Int.{w64, from_le_bytes}
use Rattle.fields.proofs.Fields.{read-field, number_8}
use Rattle.fields.proofs.read_u64.Goals as goal

pub returns : goal.returns
returns c =
    let a = c.args in read-field c.bytes_at.result (from_le_bytes w64) a.s.now a.at 8 c.map_or.result number_8 c.bytes_at.ensures c.map_or.ensures
