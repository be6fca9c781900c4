-- `extensions::entry_writable`: the three tests.
use Prim.Native.Nat.{◌<◌, ◌≤◌}
use native.Mathlib.Omega.{arith}
use borrow.Author.Tests.{ne_eqb, le-ltb, lt-ltb}
use Rattle.extension_writer.specs.Writing.{entry_writable}
use Rattle.extension_writer.proofs.entry_writable.Goals as goal

pub returns-then-pointer-eq0 : goal.returns-then-pointer-eq0
unfolding entry_writable
returns-then-pointer-eq0 c = rw c.if-pointer-eq0.true

pub returns-then-pointer-gt4294967295 : goal.returns-then-pointer-gt4294967295
unfolding entry_writable
returns-then-pointer-gt4294967295 c =
    let p = c.args.pointer in
    let h : 4294967296 ≤ p = omega arith in
    rw (ne_eqb _ _ c.if-pointer-eq0.false, le-ltb _ _ h)

pub returns : goal.returns
unfolding entry_writable
returns c =
    let p = c.args.pointer in
    let h : p < 4294967296 = omega arith in
    rw (ne_eqb _ _ c.if-pointer-eq0.false, lt-ltb _ _ h)
