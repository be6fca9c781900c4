-- `Found::read`: the fields of extension k.
use native.Mathlib.Omega.{arith}
use Rattle.extensions.specs.Extensions.{extension_from}
use Rattle.extensions.proofs.ArrayWalk.{held}
use Rattle.extensions.proofs.Found.read.Goals as goal

pub start-from-requires : goal.start-from-requires
start-from-requires c =
    let p = c.paired.ensures in
    (rw p c.requires.1, c.requires.2)

pub overflow_add-data : goal.overflow_add-data
overflow_add-data c = let h = held _ _ c.start-from.ensures.1 in omega (arith, h.fixed)

pub overflow_add-from : goal.overflow_add-from
overflow_add-from c = let h = held _ _ c.start-from.ensures.1 in omega (arith, h.fixed)

pub overflow_add-from-2 : goal.overflow_add-from-2
overflow_add-from-2 c = let h = held _ _ c.start-from.ensures.1 in omega (arith, h.fixed)

pub overflow_add-result : goal.overflow_add-result
overflow_add-result c =
    let h = held _ _ c.start-from.ensures.1 in
    let z = c.read_u32-2.ensures in
    omega (arith, h.room)

pub returns : goal.returns
unfolding extension_from
returns c =
    let p = c.paired.ensures in
    let q = rw p at c.start-from.ensures.0 in
    rw (← q, c.read_guid.ensures, c.read_u32.ensures, c.read_u32-2.ensures)
