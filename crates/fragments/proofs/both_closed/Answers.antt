-- `fragments::both_closed`: two parts, or no word at all.
use mathlib.Core.Path.{◌≡◌, sym}
use mathlib.Core.Bool.{or-false}
use native.Mathlib.Omega.{arith}
use borrow.Author.Tests.{lt-ltb, le-ltb, eq-eqb, ne_eqb}
use lib.Dec.{eqb}
use Rattle.fragments.proofs.both_closed.Goals as goal

pub returns-then-v-n : goal.returns-then-v-n
returns-then-v-n c =
    let a = c.args in
    let some : a.n ≡ 0 → ⊥ = λ e. omega arith in
    rw (ne_eqb _ _ some, lt-ltb _ _ c.if-v-n.true)

pub returns-then-n-eq0 : goal.returns-then-n-eq0
returns-then-n-eq0 c =
    let a = c.args in
    rw (le-ltb _ _ c.if-v-n.false, eq-eqb _ _ c.if-n-eq0.true) (sym (or-false (eqb a.v 0)))

pub returns : goal.returns
returns c = rw (le-ltb _ _ c.if-v-n.false, ne_eqb _ _ c.if-n-eq0.false)
