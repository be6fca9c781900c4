-- `list_walk::mode_after`: byte by byte, or by words from one that begins or ends here.
use Prim.Native.Nat.{◌-◌, ◌/◌}
use mathlib.Core.Path.{sym, ◌∙◌}
use native.Mathlib.Omega.{arith}
use Rattle.list_walk.proofs.TextBlocks.{even-walk, odd-walk}
use Rattle.list_walk.proofs.mode_after.Goals as goal

pub overflow_sub-j-then-j-eq0 : goal.overflow_sub-j-then-j-eq0
overflow_sub-j-then-j-eq0 c = let k = c.is_counted.ensures c.if-not-is_counted.false in omega arith

pub returns-then-j-eq0 : goal.returns-then-j-eq0
returns-then-j-eq0 c =
    let a = c.args in
    let k = c.is_counted.ensures c.if-not-is_counted.false in
    c.even_after.ensures
    ∙ sym
    (even-walk a.n a.v a.start a.bytes.now 0 a.seen a.low a.mode ((a.seen - a.start - 4) / 2) (omega arith) (omega arith) (omega arith))

pub bounds-bytes-0 : goal.bounds-bytes-0
bounds-bytes-0 c = let k = c.is_counted.ensures c.if-not-is_counted.false in omega arith

pub overflow_sub-j-2 : goal.overflow_sub-j-2
overflow_sub-j-2 c = let k = c.is_counted.ensures c.if-not-is_counted.false in omega arith

pub even_after-requires-2 : goal.even_after-requires-2
even_after-requires-2 c = let k = c.is_counted.ensures c.if-not-is_counted.false in omega arith

pub returns : goal.returns
returns c =
    let a = c.args in
    let k = c.is_counted.ensures c.if-not-is_counted.false in
    let m = c.next_mode-m in
    c.even_after-2.ensures
    ∙ sym
    (odd-walk a.n a.v a.start a.bytes.now a.seen a.low a.mode ((a.seen - a.start - 3) / 2) m.result
    (omega arith) (omega arith) (omega arith) m.ensures)
