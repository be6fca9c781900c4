-- `balance::held_at`: the sum so far and the counts from k on are all.
use mathlib.Core.Path.{◌∙◌}
use native.Mathlib.Omega.{arith}
use Rattle.table_view.proofs.Counts.{nine-counts}
use Rattle.balance.proofs.Sums.{total-on, total-past}
use Rattle.balance.proofs.held_at.Invariants.{counts}
use Rattle.balance.proofs.held_at.Goals as goal

pub loop-k-init : goal.loop-k-init
loop-k-init c = (omega arith, omega arith)

pub count-requires : goal.count-requires
count-requires c = let p = c.requires in (p.0, p.1, omega arith)

pub overflow_add-sum : goal.overflow_add-sum
overflow_add-sum c = let v = c.loop-k.invariant in let t = c.loop-k-test.true in omega arith

pub loop-k-preserved : goal.loop-k-preserved
loop-k-preserved c =
    let l = c.loop-k in
    let n = nine-counts c.args.words.now c.args.i c.requires.1 in
    let t = c.loop-k-test.true in
    (total-on (counts c.args.words.now c.args.i) l.k l.sum _ (omega arith) (c.from-sum.ensures ∙ c.count.ensures) l.invariant.0, omega arith)

pub returns : goal.returns
returns c =
    let l = c.loop-k in
    let n = nine-counts c.args.words.now c.args.i c.requires.1 in
    let p = total-past (counts c.args.words.now c.args.i) l.k (omega arith) in
    (omega arith, omega arith)
