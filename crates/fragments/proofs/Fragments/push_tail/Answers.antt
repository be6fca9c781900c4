-- `Fragments::push_tail`: the first 84 bytes one by one, the others at once.
use Rattle.fragments.proofs.Rest.{push-then}
use Rattle.fragments.proofs.Fragments.push_tail.Goals as goal

pub returns : goal.returns
returns c = push-then _ _ _ _ _ _ _ c.push_each-state.ensures c.push_late.ensures
