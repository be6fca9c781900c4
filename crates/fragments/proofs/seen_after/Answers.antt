-- `fragments::seen_after`: past the limit, up to it, below it.
use native.Mathlib.Omega.{arith}
use borrow.Author.Tests.{lt-ltb, le-ltb}
use Rattle.fragments.proofs.seen_after.Goals as goal

pub returns-then-seen-ge131155 : goal.returns-then-seen-ge131155
returns-then-seen-ge131155 c = rw (le-ltb _ _ c.if-seen-ge131155.true)

pub returns-then-left-m : goal.returns-then-left-m
returns-then-left-m c = rw (lt-ltb _ _ c.if-seen-ge131155.false) (omega arith)

pub returns : goal.returns
returns c = rw (lt-ltb _ _ c.if-seen-ge131155.false) (omega arith)
