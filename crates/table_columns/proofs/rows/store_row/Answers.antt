-- `table_columns::rows::store_row`: the words of row i below column j are written, and the others are as they were.
use Rattle.std.proofs.Common.{◌≡◌, refl, arith}
use Rattle.table_columns.proofs.rows.MovedRows.{put_one, put_all, column-in}
use Rattle.table_columns.proofs.rows.store_row.Goals as goal

pub loop-j-preserved : goal.loop-j-preserved
loop-j-preserved c =
    let l = c.loop-j in
    let n = l.invariant.size in
    let h = column-in c.args.k l.j _ refl (omega arith) in
    put_one _ _ _ _ c.requires.0 l.ws l.j _ l.invariant refl (omega arith)

pub returns : goal.returns
returns c =
    let l = c.loop-j in
    let e : l.j ≡ c.args.k.width = omega arith in
    put_all _ _ _ _ c.requires.0 l.ws c.requires.1 (rw e at l.invariant)
