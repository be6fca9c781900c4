-- `size::member_count`: the members of the sets from i on are to be added.
use mathlib.Core.Path.{sym}
use native.Mathlib.Omega.{arith}
use native.Mathlib.Nat.{zero-add}
use Rattle.call_save.proofs.size.MemberSum.{members-next, members-end}
use Rattle.snapshot_rows.proofs.rows.MembersInOrder.{few-members}
use Rattle.call_save.proofs.size.member_count.Goals as goal

pub loop-i-preserved : goal.loop-i-preserved
loop-i-preserved c =
    let l = c.loop-i in
    let ws = c.args.words.now in
    let k = c.size-total.result in
    let b = few-members c.members.result in
    let e = c.size-total.ensures in
    let n = c.set_count-i-end.ensures.0 in
    let more = members-next ws l.i k (omega arith) c.members.ensures e in
    let left = l.invariant.1 in
    (omega arith, omega arith)

pub returns : goal.returns
returns c =
    let l = c.loop-i in
    let ws = c.args.words.now in
    let n = c.set_count-i-end.ensures.0 in
    let none = members-end ws l.i (omega arith) in
    let left = l.invariant.1 in
    (omega arith, omega arith)

pub loop-i-init : goal.loop-i-init
loop-i-init c = (omega arith, sym (zero-add _))

pub overflow_add-total : goal.overflow_add-total
overflow_add-total c = let b = few-members c.members.result in omega arith
