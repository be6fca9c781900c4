use Prim.Native.Nat.{ℕ, ◌+◌, ◌≤◌}
use mathlib.Core.Path.{◌≡◌}
use mathlib.Core.List.{List, ◌++◌}
use lib.ListN.{length, take}
use Rattle.bindings.specs.Bindings.{words, split}
use Rattle.bindings.specs.Filter.{towers_of, Marks}
use Rattle.bindings.proofs.Walks.{StringsOf}
use Rattle.bindings.proofs.FilterLoops.{left_towers}
use Rattle.bindings.proofs.filter.requested_towers.Given as goal

abbrev pub invariant-loop-binding : goal.invariant-loop-binding
invariant-loop-binding l =
    StringsOf l.s l.binding-iterator
    × (length l.towers ≡ length l.initial.towers)
    × (l.n + l.binding-iterator.left ≤ length l.towers)
    × ((ps : List ℕ) → Marks l.marks ps → take l.n l.towers ++ left_towers ps l.s l.binding-iterator ≡ towers_of ps (words l.s 4 (split l.s)))
