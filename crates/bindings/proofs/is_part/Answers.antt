-- `bindings::is_part`: the words that are left are a part where all the words are.
use mathlib.Core.Path.{refl, sym, ◌∙◌}
use Rattle.bindings.proofs.Walks.{part-passed, part-decided}
use Rattle.bindings.proofs.is_part.Goals as goal

pub loop-init : goal.loop-init
loop-init c = refl

pub loop-preserved : goal.loop-preserved
loop-preserved c = part-passed _ _ _ c.next.ensures.steps (sym c.is_some.ensures ∙ c.loop-test.true) ∙ c.loop.invariant

pub returns : goal.returns
returns c = sym (part-decided _ _ _ c.next.ensures.steps (sym c.is_some.ensures ∙ c.loop-test.false)) ∙ c.loop.invariant
