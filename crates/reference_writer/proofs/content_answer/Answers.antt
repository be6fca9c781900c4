-- `content_answer`: a reference is judged, other data is not.
use mathlib.Core.Path.{sym, ◌∙◌}
use Rattle.reference_writer.proofs.content_answer.Goals as goal

pub returns-then-not-is_reference : goal.returns-then-not-is_reference
returns-then-not-is_reference c = rw (sym c.is_reference.ensures ∙ c.if-not-is_reference.true)

pub returns : goal.returns
returns c = rw (sym c.is_reference.ensures ∙ c.if-not-is_reference.false) c.answer_within.ensures
