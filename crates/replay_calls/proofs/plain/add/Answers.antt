-- `replay_calls::plain::add`: the step, and the recorded answer compared.
use mathlib.Core.Path.{◌≡◌, refl}
use native.Mathlib.Omega.{arith}
use lib.ListN.{length}
use Rattle.rules.specs.Rules.{results}
use Rattle.replay_step.proofs.Doing.{step-done}
use Rattle.replay_calls.proofs.plain.add.Goals as goal

pub returns : goal.returns
unfolding results
returns c =
    let t = c.requires.0 in
    let words : length c.add_at.new.words ≡ 8192 = omega arith in
    let st =
    rw (
      c.read_u32.ensures,
      c.read_guid-ipid.ensures,
      c.read_u32-2.ensures,
      c.read_u32-3.ensures,
      ← c.number-number.ensures,
    ) at c.add_at.ensures in
    step-done _ _ _ _ _ _ _ t st refl refl refl c.requires.1 refl refl words t.store c.step_of.ensures
