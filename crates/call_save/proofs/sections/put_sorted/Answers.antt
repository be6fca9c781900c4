-- `sections::put_sorted`: the rows are sorted, and written.
use mathlib.Core.Path.{sym}
use native.Mathlib.Omega.{arith}
use lib.Seq.{length-take-le}
use Rattle.call_save.proofs.sections.put_sorted.Goals as goal

pub slice_bounds-put_section-end : goal.slice_bounds-put_section-end
slice_bounds-put_section-end c = let few = c.sort_rows-n.ensures.few in sym (length-take-le _ _ (omega arith))

pub put_section-requires : goal.put_section-requires
put_section-requires c = search c.sort_rows-n.ensures.order
