-- `property_data`: the data lies within the context.
use Rattle.contexts.proofs.Properties.{property-within}
use Rattle.contexts.proofs.property_data.Goals as goal

pub bytes_of-requires : goal.bytes_of-requires
bytes_of-requires c = rw c.locate.ensures (property-within _ _)
