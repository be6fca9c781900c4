-- `sections::put_snapshot`: the objects are sorted once, for their section and for the members.
use mathlib.Core.Path.{sym}
use mathlib.Core.List.{List}
use Prim.Native.Nat.{ℕ}
use native.Mathlib.Omega.{arith}
use lib.Seq.{length-take-le}
use Rattle.rules.specs.Rules.{no_object}
use Rattle.rules.specs.Snapshot.{object_before}
use Rattle.rules.proofs.SoundLaws.{sound-fields}
use Rattle.table_view.specs.View.{objects_of, memory, view, SoundTable}
use Rattle.table_view.proofs.Steps.{sound-below}
use Rattle.snapshot_rows.specs.Keys.{InOrder}
use Rattle.snapshot_rows.specs.Rows.{ObjectsSorted}
use Rattle.call_save.proofs.sections.put_snapshot.Goals as goal

sorted-objects : (ws s rows : List ℕ) → SoundTable (memory ws s) → InOrder object_before no_object (objects_of ws) rows → ObjectsSorted ws rows
sorted-objects ws s rows t o =
    record { whole = t.words; order = o; ids = (sound-fields (view (memory ws s)) t.entries).objects_proper; below = sound-below ws s t }

pub slice_bounds-put_entries-end : goal.slice_bounds-put_entries-end
slice_bounds-put_entries-end c = let few = c.sort_rows-n.ensures.few in sym (length-take-le _ _ (omega arith))

pub put_entries-requires : goal.put_entries-requires
put_entries-requires c = search (sorted-objects, c.sort_rows-n.ensures.order)
