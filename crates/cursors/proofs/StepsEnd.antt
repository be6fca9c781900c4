-- A walk from any numbers ends: each accepted step goes on further and with less left.
use Prim.Native.Nat.{ℕ, ◌-◌, ◌/◌, ◌+◌, ◌*◌}
use mathlib.Core.Path.{◌≡◌, refl}
use mathlib.Core.List.{List}
use native.Mathlib.Omega.{arith}
use borrow.Author.Tests.{eqb-true, eqb-false}
use lib.Dec.{eqb}
use Rattle.kinds.proofs.Refusing.{by-test}
use Rattle.bindings.specs.Bindings.{binding_from}
use Rattle.bindings.specs.declared.Part.{Part}
use Rattle.cursors.specs.Cursors.{binding_step, property_step_answer, property_step, extension_step_answer, extension_step, GoesOn, StepsEnd}
use Rattle.cursors.specs.declared.extents.ExtensionStep.{ExtensionStep}
use Rattle.cursors.specs.declared.parts.Step.{Step}
use Rattle.cursors.specs.declared.properties.PropertyStep.{PropertyStep}
use Rattle.cursors.proofs.PartWalk.{met}
use Rattle.cursors.proofs.PropertyWalk as properties
use Rattle.cursors.proofs.ExtentWalk as extents

binding-ends : (s : List ℕ) (p : Part) (at n : ℕ) → (binding_step s p at n).answer ≡ 0
    → ((binding_step s p at n).from ≡ at) × GoesOn s at n (binding_step s p at n).to (binding_step s p at n).left
unfolding binding_step
binding-ends s p at n =
    by-test (λ (x : Step). x.answer ≡ 0 → (x.from ≡ at) × GoesOn s at n x.to x.left) (eqb (binding_from s p at n).answer 0) _ _
    (λ t z.
    let m = met s p at n (eqb-true _ _ t) in
    let there = m.there in
    let some = m.some in
    let fits = m.fits in
    let half : (at + 2 * m.size - at) / 2 ≡ m.size = omega arith in
    rw (m.same, half) (refl, (omega arith, omega arith, omega arith)))
    (λ f z. absurd (eqb-false _ _ f z))

property-ends : (s : List ℕ) (at n : ℕ) → (property_step s at n).answer ≡ 0 → GoesOn s at n (property_step s at n).to (property_step s at n).left
unfolding property_step
property-ends s at n =
    by-test (λ (x : PropertyStep). x.answer ≡ 0 → GoesOn s at n x.to x.left) (eqb (property_step_answer s at n) 0) _ _
    (λ t z.
    let h = properties.there s at n (eqb-true _ _ t) in
    let some = h.some in
    let whole = h.whole in
    (omega arith, omega arith, omega arith))
    (λ f z. absurd (eqb-false _ _ f z))

extension-ends : (s : List ℕ) (p at n : ℕ) → (extension_step s p at n).extension.answer ≡ 0
    → GoesOn s p n (extension_step s p at n).pointer (extension_step s p at n).left × GoesOn s at n (extension_step s p at n).at (extension_step s p at n).left
unfolding extension_step
extension-ends s p at n =
    by-test (λ (x : ExtensionStep). x.extension.answer ≡ 0 → GoesOn s p n x.pointer x.left × GoesOn s at n x.at x.left)
    (eqb (extension_step_answer s p at n) 0) _ _
    (λ t z.
    let h = extents.there s p at n (eqb-true _ _ t) in
    let some = h.some in
    let pointed = h.pointed in
    let whole = h.whole in
    ((omega arith, omega arith, omega arith), (omega arith, omega arith, omega arith)))
    (λ f z. absurd (eqb-false _ _ f z))

pub steps-end : StepsEnd
steps-end = record { bindings = binding-ends; properties = property-ends; extensions = extension-ends }
