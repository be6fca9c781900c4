-- `replay_calls::plain::reset`: the call, and the recorded answer compared.
use mathlib.Core.Path.{◌≡◌, refl}
use native.Mathlib.Omega.{arith}
use lib.ListN.{length}
use Rattle.rules.specs.Rules.{results}
use Rattle.replay_step.proofs.Doing.{start-done}
use Rattle.replay_calls.proofs.plain.reset.Goals as goal

pub returns : goal.returns
unfolding results
returns c =
    let t = c.requires.0 in
    let words : length c.reset.new.words ≡ 8192 = omega arith in
    let pf = rw (c.read_u64.ensures, ← c.number-number.ensures) at c.reset.ensures in
    start-done _ _ _ _ _ _ _ t pf refl refl refl c.requires.1 refl refl words t.store c.step_of.ensures
