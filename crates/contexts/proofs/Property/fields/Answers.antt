-- `Property::fields`: each field is read.
use Rattle.contexts.proofs.Property.fields.Goals as goal

pub returns : goal.returns
returns c = λ u. record { clsid = c.read_guid.ensures u; policy = c.read_guid-2.ensures u; flags = c.read_u32.ensures u }
