-- `table_columns::rows::remove_row`: row i of the first n is taken out of the columns below j, and the others are as they were.
use Rattle.std.proofs.Common.{◌≡◌, ◌+◌, ◌-◌, ◌*◌, refl, arith}
use Rattle.table_columns.proofs.rows.MovedRows.{removed-one, removed-all, column-in}
use Rattle.table_columns.proofs.rows.remove_row.Goals as goal

pub loop-j-preserved : goal.loop-j-preserved
loop-j-preserved c =
    let l = c.loop-j in
    let k = c.args.k in
    let from = k.base + l.j * k.places in
    let s = l.invariant.size in
    let h = column-in k l.j from refl (omega arith) in
    let w : from + c.args.n - from ≡ c.args.n = omega arith in
    let r = rw w at c.remove_at.ensures in
    rw w (removed-one _ _ _ _ c.requires.1 l.ws _ l.j from l.invariant refl (omega arith) r)

pub returns : goal.returns
returns c =
    let l = c.loop-j in
    let e : l.j ≡ c.args.k.width = omega arith in
    removed-all _ _ _ _ c.requires.1 l.ws (rw e at l.invariant)
