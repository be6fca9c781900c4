-- `replay_calls::plain::enter_exporter`: the step, and the recorded answer compared.
use mathlib.Core.Path.{◌≡◌, refl}
use native.Mathlib.Omega.{arith}
use lib.ListN.{length}
use Rattle.rules.specs.Rules.{results}
use Rattle.replay_step.proofs.Doing.{step-done}
use Rattle.replay_calls.proofs.plain.enter_exporter.Goals as goal

pub returns : goal.returns
unfolding results
returns c =
    let t = c.requires.0 in
    let words : length c.enter_exporter_step.new.words ≡ 8192 = omega arith in
    let store : length c.enter_exporter_step.new.store ≡ 8192 = omega arith in
    let st = rw (c.read_u64.ensures, c.read_guid-unknown.ensures, ← c.number-number.ensures) at c.enter_exporter_step.ensures in
    step-done _ _ _ _ _ _ _ t st refl refl refl c.requires.1 refl refl words store c.step_of.ensures
