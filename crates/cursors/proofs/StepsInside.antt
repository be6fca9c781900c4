-- What a step answers lies in the bytes, whatever its numbers are.
use Prim.Native.Nat.{ℕ, ◌≤◌}
use mathlib.Core.Path.{◌≡◌}
use mathlib.Core.List.{List}
use native.Mathlib.Omega.{arith}
use borrow.Author.Tests.{eqb-true}
use lib.Dec.{eqb}
use lib.ListN.{length}
use Rattle.kinds.proofs.Refusing.{by-test}
use Rattle.bindings.specs.Bindings.{binding_from}
use Rattle.bindings.specs.declared.Part.{Part}
use Rattle.extensions.specs.Extensions.{place_of}
use Rattle.cursors.specs.Cursors.{binding_step, step_place, property_step_answer, property_step, property_place_of, extension_step_answer, extension_step, Inside, StepsInside}
use Rattle.cursors.specs.declared.extents.ExtensionStep.{ExtensionStep}
use Rattle.cursors.specs.declared.parts.Step.{Step}
use Rattle.cursors.specs.declared.properties.PropertyStep.{PropertyStep}
use Rattle.cursors.proofs.PartWalk.{met}
use Rattle.cursors.proofs.PropertyWalk as properties
use Rattle.cursors.proofs.ExtentWalk as extents

binding-inside : (s : List ℕ) (p : Part) (at n : ℕ) → Inside s (step_place (binding_step s p at n))
unfolding binding_step
binding-inside s p at n =
    by-test (λ (x : Step). Inside s (step_place x)) (eqb (binding_from s p at n).answer 0) _ _
    (λ t.
    let m = met s p at n (eqb-true _ _ t) in
    let there = m.there in
    let fits = m.fits in
    rw m.same (omega arith, omega arith))
    (λ f. (omega arith, omega arith))

property-inside : (s : List ℕ) (at n : ℕ) → Inside s (property_place_of (property_step s at n))
unfolding property_step
property-inside s at n =
    by-test (λ (x : PropertyStep). Inside s (property_place_of x)) (eqb (property_step_answer s at n) 0) _ _
    (λ t. let h = properties.there s at n (eqb-true _ _ t) in (omega arith, omega arith))
    (λ f. (omega arith, omega arith))

extension-inside : (s : List ℕ) (p at n : ℕ) → Inside s (place_of (extension_step s p at n).extension)
unfolding extension_step
extension-inside s p at n =
    by-test (λ (x : ExtensionStep). Inside s (place_of x.extension)) (eqb (extension_step_answer s p at n) 0) _ _
    (λ t. let h = extents.there s p at n (eqb-true _ _ t) in (omega arith, omega arith))
    (λ f. (omega arith, omega arith))

pub steps-inside : StepsInside
steps-inside = record { bindings = binding-inside; properties = property-inside; extensions = extension-inside }

-- a binding that is answered, for those who take its bytes
pub binding-order : (s : List ℕ) (p : Part) (at n : ℕ) (x : Step) → x ≡ binding_step s p at n → x.from ≤ x.to
binding-order s p at n x e = rw e (binding-inside s p at n).0

pub binding-end : (s : List ℕ) (p : Part) (at n : ℕ) (x : Step) → x ≡ binding_step s p at n → x.to ≤ length s
binding-end s p at n x e = rw e (binding-inside s p at n).1

pub property-order : (s : List ℕ) (at n : ℕ) (x : PropertyStep) → x ≡ property_step s at n → x.from ≤ x.to
property-order s at n x e = rw e (property-inside s at n).0

pub property-end : (s : List ℕ) (at n : ℕ) (x : PropertyStep) → x ≡ property_step s at n → x.to ≤ length s
property-end s at n x e = rw e (property-inside s at n).1
