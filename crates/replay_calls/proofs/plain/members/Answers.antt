-- `replay_calls::plain::members`: the step, and the recorded answer compared.
use mathlib.Core.Path.{refl}
use Rattle.rules.specs.Rules.{results}
use Rattle.replay_step.proofs.Doing.{step-done}
use Rattle.replay_calls.proofs.plain.members.Goals as goal

pub returns : goal.returns
unfolding results
returns c =
    let t = c.requires.0 in
    let st = rw (c.read_u64.ensures, ← c.from-r.ensures) at c.members_step.ensures in
    step-done _ _ _ _ _ _ _ t st refl refl refl c.requires.1 refl refl t.words t.store c.step_of.ensures
