use mathlib.Core.Path.{◌≡◌}
use mathlib.Core.Bool.{true}
use Rattle.bindings.specs.Bindings.{NoZero}
use Rattle.bindings.proofs.is_text_block.Given as goal

abbrev pub invariant-loop-j : goal.invariant-loop-j
invariant-loop-j l = l.all ≡ true → NoZero l.s l.at l.j
