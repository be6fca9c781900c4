use Prim.Native.Nat.{◌+◌, ◌≤◌}
use mathlib.Core.Path.{◌≡◌}
use lib.ListN.{length}
use Rattle.bindings.specs.Bindings.{words, joined}
use Rattle.bindings.specs.Filter.{requested}
use Rattle.bindings.proofs.Walks.{StringsOf}
use Rattle.bindings.proofs.FilterLoops.{left_requested}
use Rattle.bindings.proofs.filter.requested_words.Given as goal

abbrev pub invariant-loop-binding : goal.invariant-loop-binding
invariant-loop-binding l =
    StringsOf l.s l.binding-iterator
    × (l.sum + l.binding-iterator.left ≤ l.n)
    × (l.sum + length (left_requested l.protocols l.s l.binding-iterator) ≡ length (joined (requested l.protocols (words l.s l.at l.n))))
