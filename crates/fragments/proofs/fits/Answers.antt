-- `fragments::fits`.
use Prim.Native.Nat.{◌<◌, ◌≤◌, min}
use mathlib.Core.Path.{◌≡◌}
use mathlib.Core.Bool.{not}
use native.Mathlib.Omega.{arith}
use borrow.Author.Tests.{leb-true, lt-ltb, le-ltb}
use lib.Dec.{leb, ltb}
use Prim.Native.Nat.{ℕ}
use borrow.Author.Tests.{leb-false}
use Rattle.bindings.proofs.ListBytes.{by_bool}
use Rattle.fragments.proofs.fits.Goals as goal

pub returns-then-w-kept : goal.returns-then-w-kept
returns-then-w-kept c =
    let a = c.args in
    let h : min a.w a.n < a.kept = omega arith in
    rw (c.if-over.false, lt-ltb _ _ h)

room : (w n k : ℕ) → k ≤ w → leb k n ≡ not (ltb (min w n) k)
room w n k h =
    by_bool (leb k n)
    (λ e. let q = leb-true k n e in let l : k ≤ min w n = omega arith in rw (e, le-ltb _ _ l))
    (λ e. let q = leb-false k n e in let l : min w n < k = omega arith in rw (e, lt-ltb _ _ l))

pub returns : goal.returns
returns c =
    let a = c.args in
    rw c.if-over.false (room a.w a.n a.kept (omega arith))
