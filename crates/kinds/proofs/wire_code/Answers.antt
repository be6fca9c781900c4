-- `kinds::wire_code`: the numbers of each arm, and in the last arm none of them.
use mathlib.Core.Logic.{⊎_elim}
use borrow.Author.Rules.{rules}
use Rattle.kinds.specs.Wire.{wire_code}
use Rattle.kinds.proofs.wire_code.Goals as goal

pub returns-in-0 : goal.returns-in-0
unfolding wire_code
returns-in-0 c = ⊎_elim (λ e. rw e) (λ e. rw e) c.in-0.is

pub returns-in-4 : goal.returns-in-4
unfolding wire_code
returns-in-4 c = rw c.in-4.is

pub returns-in-5 : goal.returns-in-5
unfolding wire_code
returns-in-5 c = rw c.in-5.is

pub returns-in-6 : goal.returns-in-6
unfolding wire_code
returns-in-6 c = rw c.in-6.is

pub returns-in-11 : goal.returns-in-11
unfolding wire_code
returns-in-11 c = rw c.in-11.is

pub returns-in-16 : goal.returns-in-16
unfolding wire_code
returns-in-16 c = rw c.in-16.is

pub returns-in-1-to-3 : goal.returns-in-1-to-3
unfolding wire_code
returns-in-1-to-3 c = search rules
