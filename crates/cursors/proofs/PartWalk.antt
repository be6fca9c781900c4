-- A walk over a part of a list.
use Prim.Native.Nat.{ℕ, suc, zero, ◌+◌, ◌*◌, ◌-◌, ◌/◌, ◌<◌, ◌≤◌}
use mathlib.Core.Path.{◌≡◌, refl, sym, ap, ◌∙◌}
use mathlib.Core.List.{List, [], ◌∷◌}
use mathlib.Core.Logic.{⊎_elim}
use native.Mathlib.Omega.{arith}
use borrow.Author.Tests.{leb-true, le-leb, eq-eqb, ne_eqb, eqb-true, eqb-false}
use lib.Dec.{eqb, leb}
use lib.ListN.{length, length-append}
use Rattle.kinds.proofs.Refusing.{true-false, by-test}
use Rattle.lists.proofs.Tests.{true-or-false}
use Rattle.fields.specs.Fields.{field}
use Rattle.bindings.specs.Bindings.{words, first_binding, bindings_of, part_start, part_size, list_length, refusal, place, binding_at, binding_from}
use Rattle.bindings.specs.declared.Part.{Part}
use Rattle.bindings.specs.declared.Part.TheVariants.{Strings, Security}
use Rattle.bindings.specs.declared.Place.{Place}
use Rattle.bindings.proofs.Parts.{find_none, find-end, find-here, binding-front, after, length-words}
use Rattle.bindings.proofs.Cursor.{from_next}
use Rattle.bindings.proofs.ListAnswers.{Accepted, accepted}
use Rattle.cursors.specs.Cursors.{part_cursor, no_step, step_to, binding_step, step_place, BindingsWalked}
use Rattle.cursors.specs.declared.Cursor.{Cursor}
use Rattle.cursors.specs.declared.parts.Step.{Step}
use Rattle.cursors.proofs.Walking.{walked}

-- the binding that begins n words: it is m of them
pub record Met (s : List ℕ) (p : Part) (at n : ℕ) : Type 0 where
  pub there : at + 2 * n ≤ length s
  pub size : ℕ
  pub some : 0 < size
  pub fits : size ≤ n
  pub same : binding_from s p at n ≡ record { answer = 0; from = at; to = at + 2 * size }

not-24 : (q : Place) → q ≡ refusal 24 → q.answer ≡ 0 → ⊥
not-24 q e z = let h : ◌≡◌ {A = ℕ} 24 0 = sym (ap (λ (x : Place). x.answer) e) ∙ z in omega arith

here : (s : List ℕ) (p : Part) (at n : ℕ) → at + 2 * n ≤ length s → binding_from s p at n ≡ place (bindings_of p (words s at n)) 0 at
unfolding binding_from
here s p at n there = rw (le-leb (at + 2 * n) (length s) there)

-- a binding has a word
first_some : (p : Part) (w : ℕ) (ws : List ℕ) → 0 < length (first_binding p (w ∷ ws))
unfolding first_binding
first_some Strings w ws = omega arith
first_some Security w ws = omega arith

first-words-some : (p : Part) (s : List ℕ) (at n : ℕ) → 0 < length (first_binding p (words s at (suc n)))
unfolding words
first-words-some p s at n = first_some p (field s at 2) (words s (at + 2) n)

-- words that are there
met-here : (s : List ℕ) (p : Part) (at n : ℕ) → at + 2 * n ≤ length s → (binding_from s p at n).answer ≡ 0 → Met s p at n
met-here s p at zero there done = absurd (not-24 _ (here s p at 0 there ∙ find_none p s at 0 refl 0) done)
met-here s p at (suc n) there done =
    ⊎_elim
    (λ t. absurd (not-24 _ (here s p at (suc n) there ∙ find-end p s at (suc n) (omega arith) (eqb-true _ _ t) 0) done))
    (λ f.
    let ws : List ℕ = words s at (suc n) in
    let e = sym (length-append (first_binding p ws) (after p ws)) ∙ ap length (binding-front p ws) ∙ length-words s at (suc n) in
    let l : length (first_binding p ws) ≤ suc n = omega arith in
    let z : field s at 2 ≡ 0 → ⊥ = λ q. true-false (sym (eq-eqb _ _ q) ∙ f) in
    record {
      there = there;
      size = length (first_binding p ws);
      some = first-words-some p s at n;
      fits = l;
      same = here s p at (suc n) there ∙ find-here p s at (suc n) (omega arith) z _ refl l;
    })
    (true-or-false (eqb (field s at 2) 0))

pub met : (s : List ℕ) (p : Part) (at n : ℕ) → (binding_from s p at n).answer ≡ 0 → Met s p at n
unfolding binding_from
met s p at n done =
    ⊎_elim
    (λ t. met-here s p at n (leb-true _ _ t) done)
    (λ f. let h : ◌≡◌ {A = ℕ} 13 0 = rw f at done in absurd (omega arith))
    (true-or-false (leb (at + 2 * n) (length s)))

-- ---- one step, by the place that is answered

module _ (s : List ℕ) (p : Part) (at n : ℕ) (x : Place) (e : x ≡ binding_from s p at n) where
  pub step-refused : (r : Step) → (x.answer ≡ 0 → ⊥) → r ≡ no_step x.answer → r ≡ binding_step s p at n
  unfolding binding_step
  step-refused r z q = rw (← e, ne_eqb _ _ z) q

  module _ (done : x.answer ≡ 0) where
    found : Met s p at n
    found = met s p at n (rw e at done)

    pub step-forward : x.from ≤ x.to
    step-forward = rw (e, found.same) (omega arith)

    pub step_fits : (x.to - x.from) / 2 ≤ n
    step_fits = let h = found.fits in rw (e, found.same) (omega arith)

    pub step-done : ◌≡◌ {A = Step} (step_to x n) (binding_step s p at n)
    unfolding binding_step
    step-done = rw (← e, eq-eqb _ _ done)

-- ---- a walk

-- where there is no binding 0 there is none
none-at : (bs : List (List ℕ)) (at : ℕ) → ((place bs 0 at).answer ≡ 0 → ⊥) → (k : ℕ) → place bs k at ≡ refusal 24
unfolding place
none-at [] at z k = refl
none-at (b ∷ bs) at z k = absurd (z refl)

module _ (s : List ℕ) (p : Part) (at n : ℕ) (there : at + 2 * n ≤ length s) where
  abbrev here-at : ℕ → Place
  here-at k = place (bindings_of p (words s at n)) k at

  step-answer : (binding_step s p at n).answer ≡ (binding_from s p at n).answer
  unfolding binding_step
  step-answer = by-test (λ (x : Step). x.answer ≡ (binding_from s p at n).answer) (eqb (binding_from s p at n).answer 0) _ _ (λ t. sym (eqb-true _ _ t)) (λ f. refl)

  -- a refused step, and all numbers from it on
  ended : ((binding_from s p at n).answer ≡ 0 → ⊥) → (k : ℕ) → here-at k ≡ refusal (binding_from s p at n).answer
  ended z k =
      let e = here s p at n there in
      let none = none-at (bindings_of p (words s at n)) at (rw e at z) in
      none k ∙ sym (ap (λ (x : Place). refusal x.answer) (e ∙ none 0))

  first : step_place (binding_step s p at n) ≡ here-at 0
  unfolding binding_step
  first =
      by-test (λ (x : Step). step_place x ≡ here-at 0) (eqb (binding_from s p at n).answer 0) _ _
      (λ t. let m = (met s p at n (eqb-true _ _ t)).same in ap (λ (x : Place). step_place (step_to x n)) m ∙ sym m ∙ here s p at n there)
      (λ f. sym (ended (eqb-false _ _ f) 0))

  stopped : ((binding_step s p at n).answer ≡ 0 → ⊥) → (k : ℕ) → here-at k ≡ step_place (binding_step s p at n)
  stopped z k = let q : (binding_from s p at n).answer ≡ 0 → ⊥ = λ e. z (step-answer ∙ e) in ended q k ∙ sym (first ∙ ended q 0)

  module _ (done : (binding_step s p at n).answer ≡ 0) where
    from-done : (binding_from s p at n).answer ≡ 0
    from-done = sym step-answer ∙ done

    taken : Met s p at n
    taken = met s p at n from-done

    stepped : binding_step s p at n ≡ record { answer = 0; from = at; to = at + 2 * taken.size; left = n - taken.size }
    stepped =
        let half : (at + 2 * taken.size - at) / 2 ≡ taken.size = omega arith in
        sym (step-done s p at n _ refl from-done) ∙ rw (taken.same, half)

    room : (binding_step s p at n).to + 2 * (binding_step s p at n).left ≤ length s
    room = let h = taken.fits in rw stepped (omega arith)

    later : (k : ℕ) → here-at (suc k) ≡ place (bindings_of p (words s (binding_step s p at n).to (binding_step s p at n).left)) k (binding_step s p at n).to
    later k =
        let half : (at + 2 * taken.size - at) / 2 ≡ taken.size = omega arith in
        rw stepped (rw (taken.same, half) at (from_next p s at n there k from-done))

-- a part of an accepted list lies in it
within : (s : List ℕ) (p : Part) → Accepted s → part_start s p + 2 * part_size s p ≤ length s
unfolding list_length
within s Strings a = let h = a.held in omega arith
within s Security a = let h = a.held in omega arith

-- a walk over a part of an accepted list meets its bindings by number
pub bindings-walked : BindingsWalked
unfolding part_cursor binding_at
bindings-walked s p k ok =
    rw (eq-eqb _ _ ok)
    (walked (λ (c : Cursor). binding_step s p c.at c.left) (λ x. x.answer) (λ x. record { answer = 0; at = x.to; left = x.left }) step_place
    (λ (c : Cursor) (k : ℕ). place (bindings_of p (words s c.at c.left)) k c.at)
    (λ c. c.at + 2 * c.left ≤ length s)
    (λ c g. first s p c.at c.left g)
    (λ c g done k. (room s p c.at c.left g done, later s p c.at c.left g done k))
    (λ c g z k. stopped s p c.at c.left g z (suc k))
    (record { answer = 0; at = part_start s p; left = part_size s p }) (within s p (accepted s ok)) k)
