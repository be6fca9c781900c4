-- `replay_calls::plain::load_snapshot`: the call, and the recorded answer compared.
use mathlib.Core.Path.{◌≡◌, refl}
use native.Mathlib.Omega.{arith}
use lib.ListN.{length}
use Rattle.rules.specs.Rules.{results}
use Rattle.replay_step.proofs.Doing.{start-done}
use Rattle.replay_calls.proofs.plain.load_snapshot.Goals as goal

pub returns : goal.returns
unfolding results
returns c =
    let t = c.requires.0 in
    let words : length c.load_snapshot.new.words ≡ 8192 = omega arith in
    let store : length c.load_snapshot.new.store ≡ 8192 = omega arith in
    let st = rw (← c.number-number.ensures) at c.load_snapshot.ensures in
    start-done _ _ _ _ _ _ _ t st refl refl refl c.requires.1 refl refl words store c.step_of.ensures
