use Rattle.elements.proofs.is_reference.Goals as goal

pub returns : goal.returns
returns c = rw c.read_u32.ensures
