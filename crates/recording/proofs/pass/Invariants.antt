use Rattle.recording.proofs.Passing.{Going}
use Rattle.recording.proofs.pass.Given as goal

abbrev pub invariant-loop-n : goal.invariant-loop-n
invariant-loop-n l = Going l.s l.at l.n
