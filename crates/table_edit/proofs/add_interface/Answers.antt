-- `table_edit::add_interface`: a row of the interfaces is entered.
use native.Mathlib.Omega.{arith}
use Rattle.lists.specs.Lists.{tabulate}
use Rattle.table_edit.proofs.Changes.{interface-added}
use borrow.Author.Rules.{rules}
use Rattle.table_edit.proofs.add_interface.Goals as goal

pub returns : goal.returns
unfolding tabulate
returns c =
    let e = c.interface_count-n.ensures.0 in
    interface-added _ _ _ _ _ _ c.args.counts.now c.requires.2 (λ j. let z = c.shared_slice_known-10-1.given j in omega arith) e (omega arith)
    (rw c.interface_kind.ensures at c.push_row.ensures)

pub overflow_cast-row : goal.overflow_cast-row
overflow_cast-row c = omega (arith, c.shared_slice_known-2-1.given 0)

pub overflow_cast-row-2 : goal.overflow_cast-row-2
overflow_cast-row-2 c = omega (arith, c.shared_slice_known-3-1.given 1)

pub overflow_cast-row-3 : goal.overflow_cast-row-3
overflow_cast-row-3 c = omega (arith, c.shared_slice_known-4-1.given 2)

pub overflow_cast-row-4 : goal.overflow_cast-row-4
overflow_cast-row-4 c = omega (arith, c.shared_slice_known-5-1.given 3)

pub overflow_cast-row-5 : goal.overflow_cast-row-5
overflow_cast-row-5 c = omega (arith, c.shared_slice_known-6-1.given 4)

pub overflow_cast-row-6 : goal.overflow_cast-row-6
overflow_cast-row-6 c = omega (arith, c.shared_slice_known-7-1.given 5)

pub overflow_cast-row-7 : goal.overflow_cast-row-7
overflow_cast-row-7 c = omega (arith, c.shared_slice_known-8-1.given 6)

pub overflow_cast-row-8 : goal.overflow_cast-row-8
overflow_cast-row-8 c = omega (arith, c.shared_slice_known-9-1.given 7)

pub overflow_cast-row-9 : goal.overflow_cast-row-9
overflow_cast-row-9 c = omega (arith, c.shared_slice_known-10-1.given 8)

pub push_row-requires : goal.push_row-requires
push_row-requires c = rw c.interface_kind.ensures (search rules)
