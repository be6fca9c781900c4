use Rattle.table_columns.specs.Members.{InWords}
use Rattle.table_view.specs.View.{oids_of}
use Rattle.snapshot_reader.specs.ReadRows.{members_in}
use Rattle.snapshot_reader.proofs.rows.Walk.{Walked}
use Rattle.snapshot_reader.proofs.rows.find_members.Given as goal

abbrev pub invariant-loop-j : goal.invariant-loop-j
invariant-loop-j l = InWords l.members × Walked (oids_of l.words) (members_in l.s l.n) l.j l.k l.members
