use Rattle.bindings.specs.Bindings.{NoZero}
use Rattle.bindings.proofs.zero_word.Given as goal

abbrev pub invariant-loop-i : goal.invariant-loop-i
invariant-loop-i l = NoZero l.s l.at l.i
