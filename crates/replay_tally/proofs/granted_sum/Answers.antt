-- `replay_tally::granted_sum`: by code.
use mathlib.Core.Path.{sym}
use native.Mathlib.Omega.{arith}
use Rattle.replay_tally.proofs.Summed.{summed-add, summed-object, summed-interface, summed-else}
use Rattle.replay_tally.proofs.granted_sum.Goals as goal

pub returns : goal.returns
returns c = sym (summed-else _ _ _ c.if-code-eq5.false c.if-code-eq3.false c.if-code-eq4.false)

pub overflow_add-result-then-code-eq5 : goal.overflow_add-result-then-code-eq5
overflow_add-result-then-code-eq5 c = let a = c.args in let q = summed-add _ a.call.now a.old c.if-code-eq5.true in omega arith

pub returns-then-code-eq5 : goal.returns-then-code-eq5
returns-then-code-eq5 c = let a = c.args in let q = summed-add _ a.call.now a.old c.if-code-eq5.true in omega arith

pub overflow_add-result-then-code-eq3 : goal.overflow_add-result-then-code-eq3
overflow_add-result-then-code-eq3 c = let a = c.args in let q = summed-object _ a.call.now a.old c.if-code-eq3.true in omega arith

pub returns-then-code-eq3 : goal.returns-then-code-eq3
returns-then-code-eq3 c = let a = c.args in let q = summed-object _ a.call.now a.old c.if-code-eq3.true in omega arith

pub overflow_add-result-then-code-eq4 : goal.overflow_add-result-then-code-eq4
overflow_add-result-then-code-eq4 c = let a = c.args in let q = summed-interface _ a.call.now a.old c.if-code-eq4.true in omega arith

pub returns-then-code-eq4 : goal.returns-then-code-eq4
returns-then-code-eq4 c = let a = c.args in let q = summed-interface _ a.call.now a.old c.if-code-eq4.true in omega arith
