-- `replay_calls::plain::release`: the step, and the recorded answer compared.
use mathlib.Core.Path.{◌≡◌, refl}
use native.Mathlib.Omega.{arith}
use lib.ListN.{length}
use Rattle.rules.specs.Rules.{results}
use Rattle.replay_step.proofs.Doing.{step-done}
use Rattle.replay_calls.proofs.plain.release.Goals as goal

pub returns : goal.returns
unfolding results
returns c =
    let t = c.requires.0 in
    let words : length c.release_at.new.words ≡ 8192 = omega arith in
    let st =
    rw (
      c.read_u32.ensures,
      c.read_guid-ipid.ensures,
      c.read_u32-2.ensures,
      c.read_u32-3.ensures,
      ← c.from-r.ensures,
    ) at c.release_at.ensures in
    step-done _ _ _ _ _ _ _ t st refl refl refl c.requires.1 refl refl words t.store c.step_of.ensures
