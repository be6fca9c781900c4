use mathlib.Core.Path.{sym, ◌∙◌}
use Rattle.references.specs.References.{object_answer}
use Rattle.references.proofs.object_answer.Goals as goal

pub returns-then-is_marshaler : goal.returns-then-is_marshaler
unfolding object_answer
returns-then-is_marshaler c = rw (sym c.is_marshaler.ensures ∙ c.if-is_marshaler.true) c.context_answer.ensures

pub returns : goal.returns
unfolding object_answer
returns c = rw (sym c.is_marshaler.ensures ∙ c.if-is_marshaler.false)
