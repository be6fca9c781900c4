-- `tail`: the tail lies within its reference.
use Rattle.references.proofs.Forms.{tail_within}
use Rattle.references.proofs.tail.Goals as goal

pub bytes_of-requires : goal.bytes_of-requires
bytes_of-requires c = rw c.tail_place.ensures (tail_within _)
