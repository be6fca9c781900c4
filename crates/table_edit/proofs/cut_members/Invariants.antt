use Rattle.table_edit.proofs.Cuts.{CutTo}
use Rattle.table_edit.proofs.cut_members.Given as goal

abbrev pub invariant-loop-r : goal.invariant-loop-r
invariant-loop-r l = CutTo l.i l.initial.words l.words l.r
