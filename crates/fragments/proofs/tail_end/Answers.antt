-- `fragments::tail_end`: object data, or a list.
use native.Mathlib.Omega.{arith}
use borrow.Author.Tests.{eq-eqb, ne_eqb}
use Rattle.references.proofs.Forms.{size-most}
use Rattle.fragments.proofs.tail_end.Goals as goal

pub returns-then-f-eq-CUSTOM : goal.returns-then-f-eq-CUSTOM
returns-then-f-eq-CUSTOM c = rw (eq-eqb _ _ c.if-f-eq-CUSTOM.true)

pub overflow_cast-start : goal.overflow_cast-start
overflow_cast-start c = let h = size-most c.args.f in let e = c.fixed_size-start.ensures in omega arith

pub overflow_sub-seen : goal.overflow_sub-seen
overflow_sub-seen c = rw c.fixed_size-start.ensures c.requires

pub list_end-requires : goal.list_end-requires
list_end-requires c = let h = size-most c.args.f in let e = c.fixed_size-start.ensures in omega arith

pub returns : goal.returns
returns c = rw (ne_eqb _ _ c.if-f-eq-CUSTOM.false) (rw c.fixed_size-start.ensures at c.list_end.ensures)
