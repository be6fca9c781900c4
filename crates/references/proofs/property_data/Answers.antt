-- `property_data`: the data lies within the reference.
use Rattle.references.proofs.Forms.{context-within}
use Rattle.references.proofs.property_data.Goals as goal

pub bytes_of-requires : goal.bytes_of-requires
bytes_of-requires c = rw c.locate_property.ensures (context-within _ _)
