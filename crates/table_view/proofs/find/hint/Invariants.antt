use Rattle.std.proofs.Common.{◌≡◌}
use Rattle.table_view.specs.Hints.{hinted}
use Rattle.table_view.proofs.find.hint.Given as goal

abbrev pub invariant-loop-row : goal.invariant-loop-row
invariant-loop-row l = l.hints ≡ hinted l.ids l.fn.hints l.row
