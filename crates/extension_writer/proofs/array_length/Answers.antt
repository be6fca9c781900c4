-- `extensions::array_length`: the three lengths.
use Prim.Native.Nat.{◌/◌}
use mathlib.Core.Path.{◌≡◌}
use native.Mathlib.Omega.{arith}
use borrow.Author.Tests.{ne_eqb}
use lib.ListN.{length}
use Rattle.extensions.specs.Extensions.{pairs}
use Rattle.extension_writer.specs.Writing.{array_length}
use Rattle.extension_writer.proofs.Writes.{length_most}
use Rattle.extension_writer.proofs.array_length.Goals as goal

pub returns-then-pointer-eq0 : goal.returns-then-pointer-eq0
unfolding array_length
returns-then-pointer-eq0 c = rw c.if-pointer-eq0.true

pub returns-then-array-eq0 : goal.returns-then-array-eq0
unfolding array_length
returns-then-array-eq0 c = rw (ne_eqb _ _ c.if-pointer-eq0.false, c.if-array-eq0.true)

pub overflow_add-result-2 : goal.overflow_add-result-2
overflow_add-result-2 c =
    let ws = c.args.entries.now in
    let p = c.requires in
    let m = length_most ws 0 (length ws / 4) p.1 in
    let e = c.extents_length.ensures in
    let q : c.paired.result ≡ pairs (length ws / 4) = c.paired.ensures in
    omega arith

pub returns : goal.returns
unfolding array_length
returns c =
    let ws = c.args.entries.now in
    let e = c.extents_length.ensures in
    let q : c.paired.result ≡ pairs (length ws / 4) = c.paired.ensures in
    rw (ne_eqb _ _ c.if-pointer-eq0.false, ne_eqb _ _ c.if-array-eq0.false, q, e)
