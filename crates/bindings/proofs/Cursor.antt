-- A walk over a part: the binding that begins what is left is the next one by number.
use Prim.Native.Nat.{ℕ, zero, suc, ◌+◌, ◌*◌, ◌-◌, ◌/◌, ◌≤◌}
use mathlib.Core.Path.{◌≡◌, refl, sym, ap, ◌∙◌}
use mathlib.Core.List.{List}
use mathlib.Core.Logic.{⊎_elim}
use native.Mathlib.Omega.{arith}
use borrow.Author.Tests.{le-leb, eq-eqb, eqb-true}
use lib.Dec.{eqb}
use lib.ListN.{length, length-append}
use Rattle.lists.proofs.Tests.{true-or-false}
use Rattle.kinds.proofs.Refusing.{true-false}
use Rattle.fields.specs.Fields.{field}
use Rattle.bindings.specs.Bindings.{words, first_binding, bindings_of, refusal, place, binding_from}
use Rattle.bindings.specs.declared.Part.{Part}
use Rattle.bindings.specs.declared.Place.{Place}
use Rattle.bindings.proofs.Parts.{find_none, find-end, find-here, find-later, binding-front, after, length-words}

here : (p : Part) (s : List ℕ) (at n : ℕ) → at + 2 * n ≤ length s → binding_from s p at n ≡ place (bindings_of p (words s at n)) 0 at
unfolding binding_from
here p s at n there = rw (le-leb (at + 2 * n) (length s) there)

-- a binding has no more words than there are
within : (p : Part) (s : List ℕ) (at n : ℕ) → length (first_binding p (words s at n)) ≤ n
within p s at n =
    let e = sym (length-append (first_binding p (words s at n)) (after p (words s at n))) ∙ ap length (binding-front p (words s at n)) ∙ length-words s at n in
    omega arith

-- there is none
none : (q : Place) → q ≡ refusal 24 → q.answer ≡ 0 → ⊥
none q e z = let h : ◌≡◌ {A = ℕ} 24 0 = sym (ap (λ (x : Place). x.answer) e) ∙ z in omega arith

-- where there is a binding, numbers go on behind it
pub from_next : (p : Part) (s : List ℕ) (at n : ℕ) → at + 2 * n ≤ length s → (k : ℕ) → (binding_from s p at n).answer ≡ 0
    → place (bindings_of p (words s at n)) (suc k) at
    ≡ place (bindings_of p (words s (binding_from s p at n).to (n - ((binding_from s p at n).to - at) / 2))) k (binding_from s p at n).to
from_next p s at zero there k done = absurd (none (binding_from s p at 0) (here p s at 0 there ∙ find_none p s at 0 refl 0) done)
from_next p s at (suc n) there k done =
    ⊎_elim
    (λ t. absurd (none (binding_from s p at (suc n)) (here p s at (suc n) there ∙ find-end p s at (suc n) (omega arith) (eqb-true (field s at 2) 0 t) 0) done))
    (λ f.
    let m : ℕ = length (first_binding p (words s at (suc n))) in
    let l : m ≤ suc n = within p s at (suc n) in
    let z : field s at 2 ≡ 0 → ⊥ = λ e. true-false (sym (eq-eqb (field s at 2) 0 e) ∙ f) in
    let t : (binding_from s p at (suc n)).to ≡ at + 2 * m = ap (λ (x : Place). x.to) (here p s at (suc n) there ∙ find-here p s at (suc n) (omega arith) z m refl l) in
    let d : (at + 2 * m - at) / 2 ≡ m = omega arith in
    rw (t, d) (find-later p s at (suc n) (omega arith) z m refl l k))
    (true-or-false (eqb (field s at 2) 0))
