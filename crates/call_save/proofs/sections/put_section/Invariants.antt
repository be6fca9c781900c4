use lib.ListN.{drop}
use Rattle.rules.specs.Snapshot.{in_row}
use Rattle.snapshot_rows.specs.Rows.{row_bytes}
use Rattle.snapshot_rows.proofs.Writing.{Left}
use Rattle.call_save.proofs.sections.put_section.Given as goal

abbrev pub invariant-loop-row : goal.invariant-loop-row
invariant-loop-row l =
    Left l.initial.buffer l.initial.next (in_row (row_bytes l.section l.words l.store) l.rows) l.buffer l.next (in_row (row_bytes l.section l.words l.store) (drop l.row-index l.rows))
