-- `Fragments::push_each`: the bytes that are left, pushed on, give what all of them give.
use Prim.Native.Nat.{◌+◌, ◌<◌, ◌≤◌}
use mathlib.Core.Path.{◌≡◌, refl, ap, ◌∙◌}
use mathlib.Core.List.{[], ◌∷◌}
use native.Mathlib.Omega.{arith}
use native.Mathlib.Numerals.{add-one}
use lib.ListN.{length, drop, get_or, drop_of_length-le}
use lib.Seq.{drop-cons}
use Rattle.fragments.specs.Fragments.{Reading, pushed}
use Rattle.fragments.proofs.Following.{push-more, waiting-length}
use Rattle.fragments.proofs.Fragments.push_each.Goals as goal

pub loop-b-init : goal.loop-b-init
loop-b-init c = (omega arith, refl, refl)

pub loop-b-preserved : goal.loop-b-preserved
loop-b-preserved c =
    let a = c.args in
    let l = c.loop-b in
    let b = get_or a.fragment.now l.b-index 0 in
    let r : Reading = record { state = l.state; waiting = l.waiting } in
    let i : l.b-index < length a.fragment.now = omega arith in
    let e : drop l.b-index a.fragment.now ≡ b ∷ drop (l.b-index + 1) a.fragment.now = drop-cons a.fragment.now l.b-index 0 i ∙ (rw (add-one l.b-index)) in
    let s = c.step-state.ensures in
    (omega arith, ap length s.1 ∙ waiting-length r b ∙ l.invariant.1, push-more r _ _ b _ s.0 s.1 ∙ (rw e at l.invariant.2))

pub returns : goal.returns
unfolding pushed
returns c =
    let a = c.args in
    let l = c.loop-b in
    let h : length a.fragment.now ≤ l.b-index = omega arith in
    let e : drop l.b-index a.fragment.now ≡ [] = drop_of_length-le a.fragment.now h in
    let p = rw e at l.invariant.2 in
    (ap (λ (x : Reading). x.state) p, ap (λ (x : Reading). x.waiting) p)
