use Prim.Native.Nat.{◌≤◌}
use mathlib.Core.Path.{◌≡◌}
use lib.ListN.{drop}
use Rattle.list_walk.specs.Walk.{mode_after}
use Rattle.list_walk.proofs.mode_each.Given as goal

abbrev pub invariant-loop-byte : goal.invariant-loop-byte
invariant-loop-byte l =
    (l.start ≤ l.at)
    × (mode_after l.n l.v l.start l.at l.last l.m (drop l.byte-index l.bytes) ≡ mode_after l.n l.v l.start l.seen l.low l.mode l.bytes)
