-- `list_walk::walk_words`: the words that are left, walked on, give what all of them give.
use Prim.Native.Nat.{◌+◌, ◌*◌, ◌-◌}
use mathlib.Core.Path.{◌≡◌, refl, sym, ◌∙◌}
use native.Mathlib.Omega.{arith}
use Rattle.list_walk.proofs.TextBlocks.{walk-done, turn-walked}
use Rattle.list_walk.proofs.walk_words.Goals as goal

pub loop-i-init : goal.loop-i-init
loop-i-init c =
    let a = c.args in
    let x : a.k + 0 ≡ a.k = omega arith in
    let y : a.at + 2 * 0 ≡ a.at = omega arith in
    let z : a.w - 0 ≡ a.w = omega arith in
    (omega arith, rw (x, y, z))

pub loop-i-preserved : goal.loop-i-preserved
loop-i-preserved c =
    let a = c.args in
    let l = c.loop-i in (
      omega arith,
      turn-walked a.s.now a.v a.k l.m a.at a.w l.i _ _ _ _ (omega arith) c.text_run.ensures refl
          (c.list_step-m.ensures ∙ (rw c.word.ensures))
          l.invariant.1,
    )

pub returns : goal.returns
returns c =
    let l = c.loop-i in
    sym (walk-done _ _ _ l.m _ _ (omega arith)) ∙ l.invariant.1

pub text_run-requires : goal.text_run-requires
text_run-requires c = (omega arith, omega arith, omega arith)
