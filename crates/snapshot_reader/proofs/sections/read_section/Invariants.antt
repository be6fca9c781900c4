use lib.ListN.{drop}
use Rattle.rules.specs.Contract.{Whole}
use Rattle.table_view.specs.View.{memory, view}
use Rattle.snapshot_reader.specs.ReadRows.{with_section}
use Rattle.snapshot_reader.proofs.sections.RowByRow.{RowsLeft}
use Rattle.snapshot_reader.proofs.sections.read_section.Given as goal

abbrev pub invariant-loop-i : goal.invariant-loop-i
invariant-loop-i l =
    Whole l.words × Whole l.store × RowsLeft l.section l.s l.n l._i l.next (view (memory l.words l.store)) (with_section l.section (drop l.at l.s) (view (memory l.initial.words l.initial.store)))
