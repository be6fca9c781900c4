-- `find`: the properties that are left have the place where all have it.
use Prim.Native.Nat.{◌+◌, ◌-◌}
use mathlib.Core.Path.{◌≡◌, refl, sym, ◌∙◌}
use native.Mathlib.Omega.{arith}
use Rattle.std.proofs.Math.Nat.{sub-zero}
use lib.ListN.{drop}
use lib.Seq.{drop-drop}
use Rattle.contexts.proofs.Properties.{Next, next-property, place_none, place_here, place-later}
use Rattle.contexts.proofs.find.Goals as goal
use Rattle.contexts.proofs.find.Goals.{After-read_u32}

pub loop-i-init : goal.loop-i-init
loop-i-init c = (c.requires.0, omega arith, rw (sub-zero c.args.n) c.requires.1, rw (sub-zero c.args.n, sub-zero c.args.k) refl)

-- the property that the loop stands at
next : (c : After-read_u32) → Next (c.args.n - c.loop-i.i) c.args.s.now c.loop-i.at c.read_u32.result
next c = next-property _ _ _ _ (omega arith) c.loop-i.invariant.0 c.loop-i.invariant.2 c.read_u32.ensures

pub returns-then-i-k : goal.returns-then-i-k
returns-then-i-k c =
    let l = c.loop-i in
    let left = c.args.n - l.i in
    rw (next (goal.at.returns-then-i-k c).After-read_u32).same (sym (place_here left _ (c.args.k - l.i) l.at (omega arith) (omega arith)) ∙ l.invariant.3)

pub loop-i-preserved : goal.loop-i-preserved
loop-i-preserved c =
    let l = c.loop-i in
    let left = c.args.n - l.i in
    let skip = c.args.k - l.i in
    let x = next (goal.at.loop-i-preserved c).After-read_u32 in
    let later = place-later left (drop l.at c.args.s.now) skip l.at (omega arith) (omega arith) in
    let fewer : c.args.n - (l.i + 1) ≡ left - 1 = omega arith in
    let nearer : c.args.k - (l.i + 1) ≡ skip - 1 = omega arith in
    (omega (arith, x.whole), omega arith, rw (x.same, fewer, ← drop-drop) x.rest, rw (x.same, fewer, nearer, ← drop-drop) (sym later ∙ l.invariant.3))

pub returns : goal.returns
returns c =
    let l = c.loop-i in
    sym (place_none (c.args.n - l.i) (drop l.at c.args.s.now) (c.args.k - l.i) l.at (omega arith)) ∙ l.invariant.3

pub overflow_add-result : goal.overflow_add-result
overflow_add-result c = omega (arith, (next (goal.at.overflow_add-result c).After-read_u32).whole)

pub overflow_add-result-then-i-k : goal.overflow_add-result-then-i-k
overflow_add-result-then-i-k c = omega (arith, (next (goal.at.overflow_add-result-then-i-k c).After-read_u32).whole)

pub overflow_add-at : goal.overflow_add-at
overflow_add-at c = omega (arith, (next (goal.at.overflow_add-at c).After-read_u32).whole)
