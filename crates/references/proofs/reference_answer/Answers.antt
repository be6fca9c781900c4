-- `reference_answer`: eight levels are left.
use Rattle.references.specs.References.{reference_answer}
use Rattle.references.proofs.reference_answer.Goals as goal

pub returns : goal.returns
unfolding reference_answer
returns c = c.answer_within.ensures
