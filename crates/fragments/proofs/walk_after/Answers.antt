-- `fragments::walk_after`: no form, object data, or a list.
use native.Mathlib.Omega.{arith}
use borrow.Author.Tests.{ne_eqb}
use Rattle.references.proofs.Forms.{size-most}
use Rattle.fragments.proofs.walk_after.Goals as goal

pub returns-then-form-eq0 : goal.returns-then-form-eq0
returns-then-form-eq0 c = rw c.if-form-eq0.true

pub returns-then-form-eq-CUSTOM : goal.returns-then-form-eq-CUSTOM
returns-then-form-eq-CUSTOM c = rw c.if-form-eq-CUSTOM.true

pub overflow_add-start : goal.overflow_add-start
overflow_add-start c = let h = size-most c.args.form in let e = c.fixed_size-start.ensures in omega arith

pub overflow_cast-start : goal.overflow_cast-start
overflow_cast-start c = let h = size-most c.args.form in let e = c.fixed_size-start.ensures in omega arith

pub mode_after-requires : goal.mode_after-requires
mode_after-requires c = let h = size-most c.args.form in let e = c.fixed_size-start.ensures in omega arith

pub returns : goal.returns
returns c =
    rw (ne_eqb _ _ c.if-form-eq0.false, ne_eqb _ _ c.if-form-eq-CUSTOM.false)
    (rw (c.read_u16-n.ensures, c.read_u16-v.ensures, c.fixed_size-start.ensures) at c.mode_after.ensures)
