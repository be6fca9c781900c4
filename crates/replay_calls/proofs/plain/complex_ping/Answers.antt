-- `replay_calls::plain::complex_ping`: the step, and the recorded answer compared.
use mathlib.Core.Path.{◌≡◌, refl}
use native.Mathlib.Omega.{arith}
use lib.ListN.{length}
use Rattle.rules.specs.Rules.{results}
use Rattle.replay_step.proofs.Doing.{step-done}
use Rattle.replay_calls.proofs.plain.complex_ping.Goals as goal

pub returns : goal.returns
unfolding results
returns c =
    let t = c.requires.0 in
    let words : length c.complex_ping_bytes_step.new.words ≡ 8192 = omega arith in
    let st = rw (c.read_u64.ensures, c.read_u16-sequence.ensures, ← c.from-r.ensures) at c.complex_ping_bytes_step.ensures in
    step-done _ _ _ _ _ _ _ t st refl refl refl c.requires.1 refl refl words t.store c.step_of.ensures
