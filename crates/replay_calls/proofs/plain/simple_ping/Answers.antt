-- `replay_calls::plain::simple_ping`: the step, and the recorded answer compared.
use mathlib.Core.Path.{◌≡◌, refl}
use native.Mathlib.Omega.{arith}
use lib.ListN.{length}
use Rattle.rules.specs.Rules.{results}
use Rattle.replay_step.proofs.Doing.{step-done}
use Rattle.replay_calls.proofs.plain.simple_ping.Goals as goal

pub returns : goal.returns
unfolding results
returns c =
    let t = c.requires.0 in
    let words : length c.simple_ping_step.new.words ≡ 8192 = omega arith in
    let st = rw (c.read_u64.ensures, ← c.number-number.ensures) at c.simple_ping_step.ensures in
    step-done _ _ _ _ _ _ _ t st refl refl refl c.requires.1 refl refl words t.store c.step_of.ensures
