-- `fragments::walked`: a byte outside the tail, of object data, or of a list.
use Prim.Native.Nat.{◌≤◌}
use mathlib.Core.Path.{◌≡◌, sym, ◌∙◌}
use mathlib.Core.Bool.{true, not, and-eq-true_iff}
use native.Mathlib.Omega.{arith}
use borrow.Author.Tests.{leb-true, eq-eqb, ne_eqb}
use lib.Dec.{leb, eqb}
use Rattle.references.specs.References.{fixed_size}
use Rattle.references.proofs.Forms.{size-most}
use Rattle.fragments.specs.Fragments.{in_tail}
use Rattle.fragments.proofs.walked.Goals as goal

pub returns-then-not-in_tail : goal.returns-then-not-in_tail
returns-then-not-in_tail c = simp (sym c.in_tail.ensures ∙ c.if-not-in_tail.true)

pub returns-then-form-eq-CUSTOM : goal.returns-then-form-eq-CUSTOM
returns-then-form-eq-CUSTOM c =
    let inner : in_tail c.args.form c.args.seen ≡ true = sym c.in_tail.ensures ∙ c.if-not-in_tail.false in
    rw (inner, eq-eqb _ _ c.if-form-eq-CUSTOM.true)

pub overflow_add-start : goal.overflow_add-start
overflow_add-start c = let h = size-most c.args.form in let e = c.fixed_size-start.ensures in omega arith

pub overflow_cast-start : goal.overflow_cast-start
overflow_cast-start c = let h = size-most c.args.form in let e = c.fixed_size-start.ensures in omega arith

pub overflow_sub-seen : goal.overflow_sub-seen
unfolding in_tail
overflow_sub-seen c =
    let inner : in_tail c.args.form c.args.seen ≡ true = sym c.in_tail.ensures ∙ c.if-not-in_tail.false in
    let a = c.args in
    let h : fixed_size a.form ≤ a.seen = leb-true _ _ ((and-eq-true_iff (not (eqb a.form 0)) (leb (fixed_size a.form) a.seen)).0 (inner)).1 in
    rw c.fixed_size-start.ensures h

pub returns : goal.returns
returns c =
    let inner : in_tail c.args.form c.args.seen ≡ true = sym c.in_tail.ensures ∙ c.if-not-in_tail.false in
    simp (inner, ne_eqb _ _ c.if-form-eq-CUSTOM.false)
    (rw (c.read_u16-n.ensures, c.read_u16.ensures, c.fixed_size-start.ensures) at c.next_mode.ensures)
