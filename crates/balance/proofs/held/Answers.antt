-- `balance::held`: the sum so far and the counts of the interfaces from i on are all.
use native.Mathlib.Omega.{arith}
use Rattle.rules.specs.Rules.{no_interface}
use Rattle.table_view.specs.View.{interfaces_of}
use Rattle.table_view.proofs.LiveRows.{interfaces-length}
use Rattle.balance.proofs.Sums.{held_on, held-past}
use Rattle.balance.proofs.held.Goals as goal

pub loop-i-init : goal.loop-i-init
loop-i-init c = (omega arith, omega arith)

pub held_at-sum-requires : goal.held_at-sum-requires
held_at-sum-requires c =
    let n = c.interface_count-n.ensures in
    let t = c.loop-i-test.true in
    (c.requires, omega arith)

pub overflow_add-sum : goal.overflow_add-sum
overflow_add-sum c =
    let v = c.loop-i.invariant in
    let n = c.interface_count-n.ensures in
    let o = c.held_at-sum.ensures in
    let t = c.loop-i-test.true in
    omega arith

pub loop-i-preserved : goal.loop-i-preserved
loop-i-preserved c =
    let l = c.loop-i in
    let ws = c.args.words.now in
    let n = c.interface_count-n.ensures in
    let o = c.held_at-sum.ensures in
    let t = c.loop-i-test.true in
    let k = interfaces-length ws in
    (held_on (interfaces_of ws) no_interface l.i l.sum _ (omega arith) o.0 l.invariant.0, omega arith)

pub returns : goal.returns
returns c =
    let l = c.loop-i in
    let ws = c.args.words.now in
    let n = c.interface_count-n.ensures in
    let k = interfaces-length ws in
    let p = held-past (interfaces_of ws) l.i (omega arith) in
    (λ s. omega arith, omega arith)
