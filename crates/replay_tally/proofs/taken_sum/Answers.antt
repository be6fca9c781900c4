-- `replay_tally::taken_sum`: less what a release took, or summed.
use mathlib.Core.List.{[]}
use native.Mathlib.Omega.{arith}
use Rattle.replay_tally.proofs.taken_sum.Goals as goal

pub overflow_sub-result : goal.overflow_sub-result
overflow_sub-result c = let q = c.requires.1 c.if-code-ne6.false c.if-not-agrees.false in omega arith

pub overflow_sub-result-2 : goal.overflow_sub-result-2
overflow_sub-result-2 c = let q = c.requires.1 c.if-code-ne6.false c.if-not-agrees.false in omega arith

pub returns : goal.returns
returns c = let q = c.requires.1 c.if-code-ne6.false c.if-not-agrees.false in omega arith

pub returns-then-code-ne6 : goal.returns-then-code-ne6
returns-then-code-ne6 c = c.held.ensures.0 []

pub returns-then-not-agrees : goal.returns-then-not-agrees
returns-then-not-agrees c = c.held-then-not-agrees.ensures.0 []
