use Prim.Native.Nat.{ℕ, ◌<◌}
use mathlib.Core.Path.{◌≡◌}
use mathlib.Core.List.{List}
use lib.ListN.{length, get_or, take}
use Rattle.bindings.specs.Filter.{Marks}
use Rattle.bindings.proofs.filter.mark_each.Given as goal

abbrev pub invariant-loop-k : goal.invariant-loop-k
invariant-loop-k g l =
    (xs : List ℕ) → length xs ≡ l.n → ((k x : ℕ) → k < l.n → goal.F-post g l.number k x → x ≡ get_or xs k 0) → Marks l.marks (take l.k xs)
