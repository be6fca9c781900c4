-- `fragments::list_end`: the rows of `list_end`.
use Prim.Native.Nat.{◌+◌, ◌*◌, ◌<◌, ◌≤◌}
use mathlib.Core.Path.{◌≡◌, sym, ◌∙◌}
use mathlib.Core.Bool.{true, false}
use native.Mathlib.Omega.{arith}
use borrow.Author.Tests.{lt-ltb, le-ltb}
use Rattle.kinds.specs.Refusals.{order}
use Rattle.fields.specs.Fields.{field}
use Rattle.list_walk.specs.Walk.{both_closed}
use Rattle.fragments.specs.Fragments.{list_end}
use Rattle.fragments.proofs.list_end.Goals as goal

pub returns-then-t-lt4 : goal.returns-then-t-lt4
unfolding list_end order
returns-then-t-lt4 c = simp (lt-ltb _ _ c.if-t-lt4.true)

pub returns-then-t-n : goal.returns-then-t-n
unfolding list_end order
returns-then-t-n c =
    let a = c.args in
    let n = c.read_u16-n.ensures in
    let short : a.t < 4 + 2 * field a.head.now a.start 2 = omega arith in
    simp (le-ltb _ _ c.if-t-lt4.false, lt-ltb _ _ short)

pub returns-then-not-both_closed : goal.returns-then-not-both_closed
unfolding list_end order
returns-then-not-both_closed c =
    let long : 4 + 2 * field c.args.head.now c.args.start 2 ≤ c.args.t = let n = c.read_u16-n.ensures in omega arith in
    let a = c.args in
    let n = c.read_u16-n.ensures in
    let v = c.read_u16.ensures in
    let unclosed : both_closed (field a.head.now a.start 2) (field a.head.now (a.start + 2) 2) a.mode ≡ false =
    rw (← n, ← v) (sym c.both_closed.ensures ∙ c.if-not-both_closed.true) in
    rw (le-ltb _ _ c.if-t-lt4.false, le-ltb _ _ (long), unclosed)

pub returns-then-n-t : goal.returns-then-n-t
unfolding list_end order
returns-then-n-t c =
    let long : 4 + 2 * field c.args.head.now c.args.start 2 ≤ c.args.t = let n = c.read_u16-n.ensures in omega arith in
    let closed : let a = c.args in both_closed (field a.head.now a.start 2) (field a.head.now (a.start + 2) 2) a.mode ≡ true =
    let n = c.read_u16-n.ensures in
    let v = c.read_u16.ensures in
    rw (← n, ← v) (sym c.both_closed.ensures ∙ c.if-not-both_closed.false) in
    let a = c.args in
    let n = c.read_u16-n.ensures in
    let more : 4 + 2 * field a.head.now a.start 2 < a.t = omega arith in
    rw (le-ltb _ _ c.if-t-lt4.false, le-ltb _ _ (long), closed, lt-ltb _ _ more)

pub returns : goal.returns
unfolding list_end order
returns c =
    let long : 4 + 2 * field c.args.head.now c.args.start 2 ≤ c.args.t = let n = c.read_u16-n.ensures in omega arith in
    let closed : let a = c.args in both_closed (field a.head.now a.start 2) (field a.head.now (a.start + 2) 2) a.mode ≡ true =
    let n = c.read_u16-n.ensures in
    let v = c.read_u16.ensures in
    rw (← n, ← v) (sym c.both_closed.ensures ∙ c.if-not-both_closed.false) in
    let a = c.args in
    let n = c.read_u16-n.ensures in
    let all : a.t ≤ 4 + 2 * field a.head.now a.start 2 = omega arith in
    rw (le-ltb _ _ c.if-t-lt4.false, le-ltb _ _ (long), closed, le-ltb _ _ all)
