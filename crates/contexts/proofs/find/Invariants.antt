use Rattle.std.proofs.Common.{◌≡◌, ◌≤◌, ◌-◌, length, drop}
use Rattle.contexts.specs.Contexts.{properties_answer, content_place}
use Rattle.contexts.proofs.find.Given as goal

abbrev pub invariant-loop-i : goal.invariant-loop-i
invariant-loop-i l =
    (l.at ≤ length l.s)
    × (l.i ≤ l.k)
    × (properties_answer (l.n - l.i) (drop l.at l.s) ≡ 0)
    × (content_place (l.n - l.i) (drop l.at l.s) (l.k - l.i) l.at ≡ content_place l.n (drop 48 l.s) l.k 48)
