-- `filter::mark`: the bit of the number is set.
use Prim.Native.Nat.{◌<◌, ◌%◌}
use native.Mathlib.Omega.{arith}
use Rattle.bindings.proofs.Marks.{unit, marks-one}
use Rattle.bindings.proofs.filter.mark.Goals as goal

pub returns : goal.returns
returns c xs m =
    let x = c.args.x in
    let h : x < 65536 = omega arith in
    rw (c.from-n.ensures, unit (x % 64) (omega arith)) (marks-one _ xs x m h)
