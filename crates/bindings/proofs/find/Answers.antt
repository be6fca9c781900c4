-- `bindings::find`: the words that are left have the binding where all the words have it.
use Prim.Native.Nat.{suc, ◌-◌}
use mathlib.Core.Path.{◌≡◌, sym, ap, ◌∙◌}
use native.Mathlib.Omega.{arith}
use Rattle.bindings.specs.declared.Walk.{Walk}
use Rattle.bindings.proofs.Walks.{left_place, place-taken, place-later, place-ended}
use Rattle.bindings.proofs.find.Goals as goal

pub loop-binding-init : goal.loop-binding-init
loop-binding-init c = ap (λ (w : Walk). left_place w c.args.k) c.into_iter-binding-iterator.ensures.into_iter_gives

pub returns-then-skip-eq0 : goal.returns-then-skip-eq0
returns-then-skip-eq0 c =
    let l = c.loop-binding in
    sym (place-taken _ _ _ c.in-Some.ensures.steps) ∙ (rw c.if-skip-eq0.true at l.invariant)

pub loop-binding-preserved : goal.loop-binding-preserved
loop-binding-preserved c =
    let l = c.loop-binding in
    let k : l.skip ≡ suc (l.skip - 1) = omega arith in
    place-later _ _ _ c.in-Some.ensures.steps (l.skip - 1) ∙ (rw k at l.invariant)

pub returns : goal.returns
returns c =
    let l = c.loop-binding in
    sym (place-ended _ _ c.in-None.ensures.steps l.skip) ∙ l.invariant
