-- `binding`: a binding lies within its reference.
use Rattle.references.proofs.Forms.{within-reference}
use Rattle.references.proofs.binding.Goals as goal

pub bytes_of-requires : goal.bytes_of-requires
bytes_of-requires c = rw c.locate.ensures (within-reference _ _ _)
