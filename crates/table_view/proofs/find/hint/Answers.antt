-- `find::hint`: after so many rounds, so many rows are noted.
use Rattle.std.proofs.Common.{refl}
use native.Mathlib.Numerals.{add-one}
use Rattle.table_view.specs.Hints.{hinted}
use Rattle.table_view.proofs.find.hint.Goals as goal

pub loop-row-init : goal.loop-row-init
unfolding hinted
loop-row-init c = refl

pub loop-row-preserved : goal.loop-row-preserved
unfolding hinted
loop-row-preserved c = rw (add-one c.loop-row.row, c.loop-row.invariant, c.of_word.ensures.0) refl
