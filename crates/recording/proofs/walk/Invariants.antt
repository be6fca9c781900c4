use Prim.Native.Nat.{◌-◌}
use Rattle.recording.proofs.Walking.{Rest}
use Rattle.recording.proofs.walk.Given as goal

abbrev pub invariant-loop : goal.invariant-loop
invariant-loop l = Rest l.s l.n l.at l.fits (l.n - l.counter)
