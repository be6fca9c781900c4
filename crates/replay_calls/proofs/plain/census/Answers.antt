-- `replay_calls::plain::census`: the step, and the recorded answer compared.
use mathlib.Core.Path.{refl}
use Rattle.rules.specs.Rules.{results}
use Rattle.replay_step.proofs.Doing.{step-done}
use Rattle.replay_calls.proofs.plain.census.Goals as goal

pub returns : goal.returns
unfolding results
returns c =
    let t = c.requires.0 in
    step-done _ _ _ _ _ _ _ t c.census_step-r.ensures refl refl refl c.requires.1 refl refl t.words t.store c.step_of.ensures
