use Prim.Native.Nat.{◌≤◌}
use mathlib.Core.Path.{◌≡◌}
use lib.ListN.{length, drop}
use Rattle.fragments.specs.Fragments.{Reading, pushed}
use Rattle.fragments.proofs.Fragments.push_each.Given as goal

abbrev pub invariant-loop-b : goal.invariant-loop-b
invariant-loop-b l =
    (l.b-index ≤ length l.fragment)
    × (length l.waiting ≡ length l.initial.waiting)
    × (◌≡◌ {A = Reading} (pushed (record { state = l.state; waiting = l.waiting }) (drop l.b-index l.fragment)) (pushed (record { state = l.initial.state; waiting = l.initial.waiting }) l.fragment))
