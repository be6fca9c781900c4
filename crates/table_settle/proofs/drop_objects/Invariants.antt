use Prim.Native.Nat.{ℕ}
use mathlib.Core.Path.{◌≡◌}
use mathlib.Core.List.{List}
use mathlib.Core.Bool.{true}
use lib.Dec.{eqb}
use lib.ListN.{length}
use Rattle.lists.specs.Lists.{distinct}
use Rattle.rules.specs.Entries.{oids}
use Rattle.table_view.specs.View.{members_below, memory, view}
use Rattle.table_settle.proofs.Going.{ObjectsGoing}
use Rattle.table_settle.proofs.drop_objects.Given as goal

abbrev pub invariant-loop-i : goal.invariant-loop-i
invariant-loop-i l =
    (length l.words ≡ 8192) × ((s : List ℕ) → ObjectsGoing l.why (view (memory l.initial.words s)) l.i (view (memory l.words s)))
    × (members_below l.words ≡ true) × (distinct eqb (oids (view (memory l.words l.words))) ≡ true)
