use Prim.Native.Nat.{◌*◌}
use Rattle.bindings.specs.Bindings.{NoZero}
use Rattle.bindings.proofs.whole_blocks.Given as goal

abbrev pub invariant-loop-k : goal.invariant-loop-k
invariant-loop-k l = NoZero l.s l.at (l.w * l.k)
