-- `table_columns::copy_down`: the source is pasted at the target, or the places are not as they have to be.
use Rattle.std.proofs.Common.{◌≡◌, ◌+◌, ◌-◌, arith}
use Rattle.table_columns.proofs.Moves.{move-copied, short-copied, up-copied}
use Rattle.table_columns.proofs.copy_down.Goals as goal
use Rattle.table_columns.proofs.copy_down.Goals.{else-to-from-via-then-to-from+then-from-store+else-n-store, else-to-from-via-then-to-from+else-from-store, else-to-from-via-else-to-from}

pub returns-then-n-store : goal.returns-then-n-store
returns-then-n-store c =
    let v = c.args in
    let e : v.from + v.n - v.from ≡ v.n = omega arith in
    move-copied v.store.now v.from v.to v.n (omega arith) (omega arith) _ (rw e at c.copy_within.ensures.after)

pub returns-else-to-from : goal.returns-else-to-from
returns-else-to-from c =
    let v = c.args in
    elim c.else-to-from.branch [
      | else-to-from-via-then-to-from+then-from-store+else-n-store w ↦ short-copied v.store.now v.from v.to v.n (omega arith)
      | else-to-from-via-then-to-from+else-from-store w ↦ short-copied v.store.now v.from v.to v.n (omega arith)
      | else-to-from-via-else-to-from w ↦ up-copied v.store.now v.from v.to v.n w.if-to-from.false
    ]
