-- `fragments::keep_all`: the bytes that find room.
use mathlib.Core.Path.{◌≡◌, sym}
use native.Mathlib.Nat.{sub-zero}
use native.Mathlib.Omega.{arith}
use lib.ListN.{length}
use Rattle.fields.proofs.Fields.{written_none}
use Prim.Native.Nat.{◌-◌}
use Rattle.fragments.proofs.Rest.{take-least}
use Rattle.fragments.proofs.keep_all.Goals as goal

pub slice_bounds-copy-end : goal.slice_bounds-copy-end
slice_bounds-copy-end c = let e = c.least-m.ensures in omega arith

pub returns-then-kept-size : goal.returns-then-kept-size
returns-then-kept-size c =
    let a = c.args in
    let w = a.waiting.now in
    let m = c.least-m.ensures in
    let e = rw (sub-zero c.least-m.result, m, take-least (length w - a.kept) a.bytes.now) at c.copy.ensures in
    rw c.if-inside.true e

pub returns-else-kept-size : goal.returns-else-kept-size
returns-else-kept-size c =
    let a = c.args in
    let w = a.waiting.now in
    let z : length w - a.kept ≡ 0 = omega arith in
    rw (c.if-inside.true, z) (sym (written_none w a.kept))
