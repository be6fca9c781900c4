use mathlib.Core.Path.{◌≡◌}
use Rattle.bindings.specs.Bindings.{words, bindings_of, place}
use Rattle.bindings.proofs.Walks.{left_place}
use Rattle.bindings.proofs.find.Given as goal

abbrev pub invariant-loop-binding : goal.invariant-loop-binding
invariant-loop-binding l = left_place l.binding-iterator l.skip ≡ place (bindings_of l.fn.p (words l.s l.at l.n)) l.k l.at
