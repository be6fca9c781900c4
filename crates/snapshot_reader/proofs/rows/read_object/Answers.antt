-- `rows::read_object`: an object is added where there is a place.
use mathlib.Core.Path.{◌∙◌}
use mathlib.Core.List.{[]}
use native.Mathlib.Omega.{arith}
use borrow.Author.Tests.{lt-ltb, le-ltb}
use Rattle.rules.specs.Entries.{object_places}
use Rattle.rules.specs.Snapshot.{read_object}
use Rattle.table_view.specs.View.{memory, view}
use Rattle.table_view.proofs.LiveRows.{objects-length}
use Rattle.snapshot_reader.proofs.rows.RowFields.{drop-within}
use Rattle.snapshot_reader.proofs.rows.SectionFits.{object-fits}
use Rattle.snapshot_reader.proofs.rows.Reading.{before-sets}
use Rattle.snapshot_reader.proofs.rows.read_object.Goals as goal

pub returns-then-object_count-ge-OBJECT_PLACES : goal.returns-then-object_count-ge-OBJECT_PLACES
unfolding read_object
returns-then-object_count-ge-OBJECT_PLACES c t =
    let ws = c.args.words.now in
    let n = c.object_count in
    object-fits _ (view (memory ws t)) (c.requires.1 t) ∙ rw (objects-length ws, ← n.ensures.0) (le-ltb n.result object_places c.if-object_count-ge-OBJECT_PLACES.true)

pub add_object-requires : goal.add_object-requires
add_object-requires c =
    (c.requires.0, omega arith, before-sets c.args.words.now (c.requires.1 []))

pub returns : goal.returns
unfolding read_object
returns c t =
    let ws = c.args.words.now in
    let n = c.object_count in
    let e = c.within.ensures in
    record {
      fit = object-fits _ (view (memory ws t)) (c.requires.1 t) ∙ rw (objects-length ws, ← n.ensures.0) (lt-ltb n.result object_places c.if-object_count-ge-OBJECT_PLACES.false);
      entries = cc (c.add_object.ensures t);
      rest = rw e (drop-within c.args.s.now 25);
      inside = omega arith;
    }
