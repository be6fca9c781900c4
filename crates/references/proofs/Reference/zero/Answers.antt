-- `Reference::zero`: each field is zero.
use Rattle.references.proofs.Reference.zero.Goals as goal

pub returns : goal.returns
returns c = cc c.zero-block.ensures
