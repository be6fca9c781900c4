-- `Reference::custom`: the block is zero.
use Rattle.references.proofs.Reference.custom.Goals as goal

pub returns : goal.returns
returns c = cc c.zero-block.ensures
