-- `bindings::zero_word`: none of the words before it is zero.
use mathlib.Core.Path.{sym, ◌∙◌}
use native.Mathlib.Omega.{arith}
use Rattle.bindings.proofs.zero_word.Goals as goal

pub returns-then-word-eq0 : goal.returns-then-word-eq0
returns-then-word-eq0 c =
    let l = c.loop-i in
    record { within = omega arith; zero = sym c.word.ensures ∙ c.if-word-eq0.true; before = l.invariant }
