-- `rows::read_interface`: an interface is added where there is a place.
use mathlib.Core.Path.{◌∙◌}
use native.Mathlib.Omega.{arith}
use borrow.Author.Tests.{lt-ltb, le-ltb}
use Rattle.lists.specs.Lists.{tabulate}
use Rattle.rules.specs.Entries.{interface_places}
use Rattle.rules.specs.Snapshot.{read_interface}
use Rattle.table_view.specs.View.{memory, view}
use Rattle.table_view.proofs.LiveRows.{interfaces-length}
use Rattle.snapshot_reader.proofs.rows.RowFields.{drop-within}
use Rattle.snapshot_reader.proofs.rows.SectionFits.{interface-fits}
use Rattle.snapshot_reader.proofs.rows.read_interface.Goals as goal

pub returns-then-interface_count-ge-INTERFACE_PLACES : goal.returns-then-interface_count-ge-INTERFACE_PLACES
unfolding read_interface
returns-then-interface_count-ge-INTERFACE_PLACES c t =
    let ws = c.args.words.now in
    let n = c.interface_count in
    interface-fits _ (view (memory ws t)) ∙ rw (interfaces-length ws, ← n.ensures.0) (le-ltb n.result interface_places c.if-interface_count-ge-INTERFACE_PLACES.true)

pub returns : goal.returns
unfolding read_interface tabulate
returns c t =
    let ws = c.args.words.now in
    let s = c.args.s.now in
    let n = c.interface_count in
    let e = c.within.ensures in
    record {
      fit = interface-fits _ (view (memory ws t)) ∙ rw (interfaces-length ws, ← n.ensures.0) (lt-ltb n.result interface_places c.if-interface_count-ge-INTERFACE_PLACES.false);
      entries = rw (
        c.read_guid-ipid.ensures,
        c.read_guid-iid.ensures,
        c.read_u64.ensures,
        c.read_counts.ensures,
      )
          at (c.add_interface.ensures t);
      rest = rw e (drop-within s 76);
      inside = omega arith;
    }
