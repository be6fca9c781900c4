-- `filter::mark_each`: the numbers so far are marked.
use native.Mathlib.Omega.{arith}
use Rattle.bindings.proofs.Marks.{marks-more}
use Rattle.bindings.proofs.filter.mark_each.Goals as goal

pub loop-k-preserved : goal.loop-k-preserved
loop-k-preserved g c xs n each =
    let l = c.loop-k in
    marks-more xs l.marks _ l.k _ (omega arith) (each l.k _ c.loop-k-test.true c.number.ensures) (l.invariant xs n each) c.mark.ensures
