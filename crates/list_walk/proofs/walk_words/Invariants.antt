use Prim.Native.Nat.{◌+◌, ◌*◌, ◌-◌, ◌≤◌}
use mathlib.Core.Path.{◌≡◌}
use Rattle.bindings.specs.Bindings.{words}
use Rattle.list_walk.specs.Walk.{walk_list}
use Rattle.list_walk.proofs.walk_words.Given as goal

abbrev pub invariant-loop-i : goal.invariant-loop-i
invariant-loop-i l = (l.i ≤ l.w) × (walk_list l.v (l.k + l.i) l.m (words l.s (l.at + 2 * l.i) (l.w - l.i)) ≡ walk_list l.v l.k l.mode (words l.s l.at l.w))

abbrev pub decreases-loop-i : goal.decreases-loop-i
decreases-loop-i l = l.w - l.i
