use lib.ListN.{drop}
use Rattle.rules.specs.Snapshot.{in_row}
use Rattle.snapshot_rows.specs.Rows.{member_bytes_at}
use Rattle.snapshot_rows.proofs.Writing.{Left}
use Rattle.snapshot_rows.proofs.rows.put_members.Given as goal

abbrev pub invariant-loop-row : goal.invariant-loop-row
invariant-loop-row l =
    Left l.initial.buffer l.at (in_row (member_bytes_at l.words l.members) l.rows) l.buffer l.next (in_row (member_bytes_at l.words l.members) (drop l.row-index l.rows))
