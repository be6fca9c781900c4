use Prim.Native.Nat.{◌≤◌}
use mathlib.Core.Path.{◌≡◌}
use lib.ListN.{length}
use Rattle.rules.specs.Entries.{exporter_places}
use Rattle.table_view.specs.View.{list_start}
use Rattle.table_view.proofs.Checks.{every_row, every_from}
use Rattle.table_view.proofs.KeptLists.{kept_row}
use Rattle.table_judge.proofs.lists_kept.Given as goal

abbrev pub invariant-loop-k : goal.invariant-loop-k
invariant-loop-k l = (l.n ≤ exporter_places) × (every_row l.n (kept_row l.store) ≡ every_from l._k l.n (kept_row l.store)) × (l.at ≡ list_start l.store l._k) × (l.at ≤ length l.store)
