use mathlib.Core.Path.{◌≡◌}
use Rattle.bindings.specs.Bindings.{words, is_part}
use Rattle.bindings.proofs.Walks.{left_is_part}
use Rattle.bindings.proofs.is_part.Given as goal

abbrev pub invariant-loop : goal.invariant-loop
invariant-loop l = left_is_part l.walk ≡ is_part l.fn.p (words l.s l.at l.n)
