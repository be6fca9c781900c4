use Prim.Native.Nat.{◌+◌, ◌*◌, ◌≤◌}
use mathlib.Core.Path.{◌≡◌}
use mathlib.Core.List.{map}
use lib.ListN.{length, drop}
use Rattle.bindings.specs.Bindings.{joined}
use Rattle.rules.specs.Entries.{PingSet}
use Rattle.table_view.specs.View.{sets_of}
use Rattle.call_save.proofs.size.member_count.Given as goal

abbrev pub invariant-loop-i : goal.invariant-loop-i
invariant-loop-i l =
    (l.total ≤ 128 * l.i)
    × (length (joined (map (λ (s : PingSet). s.members) (sets_of l.words))) ≡ l.total + length (joined (map (λ (s : PingSet). s.members) (drop l.i (sets_of l.words)))))
