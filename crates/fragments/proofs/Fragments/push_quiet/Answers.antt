-- `Fragments::push_quiet`: the head, the count and the last byte.
use mathlib.Core.Logic.{⊎_elim}
use native.Mathlib.Omega.{arith}
use Rattle.fragments.specs.Rest.{quiet_after}
use Rattle.fragments.proofs.Before.{quiet-count}
use Rattle.fragments.proofs.Fragments.push_quiet.Goals as goal

pub overflow_cast-result : goal.overflow_cast-result
overflow_cast-result c = ⊎_elim (λ e. omega arith) (λ e. omega arith) (quiet-count _ _ _ c.requires)

pub overflow_add-result : goal.overflow_add-result
overflow_add-result c = ⊎_elim (λ e. omega arith) (λ e. omega arith) (quiet-count _ _ _ c.requires)

pub returns : goal.returns
unfolding quiet_after
returns c = rw (c.copy.ensures, c.low_after.ensures)
