-- `extensions::start`: the extension asked for is the same from each place on.
use Prim.Native.Nat.{◌+◌, ◌-◌}
use mathlib.Core.Path.{◌≡◌, refl, sym, ◌∙◌}
use native.Mathlib.Omega.{arith}
use Rattle.std.proofs.Math.Nat.{sub-zero}
use Rattle.extensions.proofs.ArrayWalk.{extents-first, start_none, start-more}
use Rattle.extensions.proofs.start.Goals as goal

pub loop-init : goal.loop-init
loop-init c = (rw (sub-zero c.args.n) c.requires.0, rw (sub-zero c.args.k) refl)

pub next-i-requires : goal.next-i-requires
next-i-requires c = (extents-first _ _ _ (omega (arith, c.requires.1)) c.loop.invariant.0).0

pub loop-preserved : goal.loop-preserved
loop-preserved c =
    let l = c.loop in
    let fewer : c.args.n - (l.counter + 1) ≡ c.args.n - l.counter - 1 = omega arith in
    let nearer : c.args.k - (l.counter + 1) ≡ c.args.k - l.counter - 1 = omega arith in
    let start = start-more c.args.s.now l.i (c.args.k - l.counter) (omega arith) in
    rw (c.next-i.ensures, fewer, nearer) ((extents-first _ _ _ (omega (arith, c.requires.1)) l.invariant.0).1, sym start ∙ l.invariant.1)

pub returns : goal.returns
returns c =
    let l = c.loop in
    let z = start_none c.args.s.now l.i (c.args.k - l.counter) (omega arith) in
    (sym z ∙ l.invariant.1, (extents-first _ _ _ (omega (arith, c.requires.1)) l.invariant.0).0)
