-- `bindings::binding`: a binding lies within its list.
use Rattle.bindings.proofs.ListAnswers.{within-binding}
use Rattle.bindings.proofs.binding.Goals as goal

pub bytes_of-requires : goal.bytes_of-requires
bytes_of-requires c = rw c.locate.ensures (within-binding _ _ _)
