-- `size::snapshot_length`: the entries of each kind, lists and members counted.
use Prim.Native.Nat.{◌≤◌}
use native.Mathlib.Omega.{arith}
use Rattle.call_save.proofs.size.MemberSum.{lists-inside, lists-few, by-counts}
use Rattle.call_save.proofs.size.snapshot_length.Goals as goal

pub list_start-lists-requires : goal.list_start-lists-requires
list_start-lists-requires c = search lists-inside

pub overflow_add-result-2 : goal.overflow_add-result-2
overflow_add-result-2 c =
    let inside : c.list_start-lists.result ≤ 8192 = search lists-few in
    let h = inside in omega arith

pub overflow_add-result-3 : goal.overflow_add-result-3
overflow_add-result-3 c =
    let inside : c.list_start-lists.result ≤ 8192 = search lists-few in
    let h = inside in omega arith

pub overflow_add-result-4 : goal.overflow_add-result-4
overflow_add-result-4 c =
    let inside : c.list_start-lists.result ≤ 8192 = search lists-few in
    let h = inside in omega arith

pub overflow_add-result-5 : goal.overflow_add-result-5
overflow_add-result-5 c =
    let inside : c.list_start-lists.result ≤ 8192 = search lists-few in
    let h = inside in omega arith

pub returns : goal.returns
returns c = search by-counts
