-- `fields::read_u16`: what `bytes_at` gives, decoded.
use Rattle.std.specs.Int.{w16, from_le_bytes}
use Rattle.fields.proofs.Fields.{read-field, number_2}
use Rattle.fields.proofs.read_u16.Goals as goal

pub returns : goal.returns
returns c =
    let a = c.args in read-field c.bytes_at.result (from_le_bytes w16) a.s.now a.at 2 c.map_or.result number_2 c.bytes_at.ensures c.map_or.ensures
