-- A walk over the properties of a context.
use Prim.Native.Nat.{ℕ, suc, ◌+◌, ◌-◌, ◌<◌, ◌≤◌}
use mathlib.Core.Path.{◌≡◌, refl, sym, ap, ◌∙◌}
use mathlib.Core.Bool.{true, false, cond, not}
use mathlib.Core.Logic.{⊎_elim}
use mathlib.Core.List.{List}
use native.Mathlib.Omega.{arith}
use borrow.Author.Tests.{leb-true, le-leb, not-false, eq-eqb, ne_eqb, eqb-true, eqb-false}
use lib.Dec.{eqb, leb}
use lib.ListN.{length, drop, length-drop}
use lib.Seq.{drop-drop}
use Rattle.kinds.specs.Refusals.{order}
use Rattle.kinds.proofs.Refusing.{by-test, passed}
use Rattle.lists.proofs.Tests.{true-or-false}
use Rattle.fields.specs.Fields.{field, guid_at}
use Rattle.fields.proofs.Fields.{field-drop}
use Rattle.bindings.specs.declared.Place.{Place}
use Rattle.contexts.specs.Contexts.{property_length, property_at, no_property, properties_answer, content_place, property_place, read_property}
use Rattle.contexts.specs.declared.ReadProperty.{ReadProperty}
use Rattle.contexts.proofs.Properties.{Accepted, accepted, properties-parts, place_none, place_here, place-later, context-accepted}
use Rattle.cursors.specs.Cursors.{context_cursor, no_property_step, property_step_answer, property_met, property_step, property_place_of, property_read_of, PropertiesWalked}
use Rattle.cursors.specs.declared.Cursor.{Cursor}
use Rattle.cursors.proofs.Walking.{walked, each_step}
use Rattle.cursors.specs.declared.properties.PropertyStep.{PropertyStep}

-- ---- one step, row by row

module _ (s : List ℕ) (at n : ℕ) where
  pub none_left : n ≡ 0 → property_step_answer s at n ≡ 24
  unfolding property_step_answer order
  none_left z = rw z

  module _ (some : n ≡ 0 → ⊥) where
    pub property-short : leb (at + 40) (length s) ≡ false → property_step_answer s at n ≡ 13
    unfolding property_step_answer order
    property-short e = rw (ne_eqb _ _ some, e)

    module _ (fixed : leb (at + 40) (length s) ≡ true) (m : ℕ) (size : m ≡ field s (at + 36) 4) where
      pub property-cut : leb (at + 40 + m) (length s) ≡ false → property_step_answer s at n ≡ 13
      unfolding property_step_answer order
      property-cut e = rw (ne_eqb _ _ some, fixed, ← size, e)

      pub property-whole : leb (at + 40 + m) (length s) ≡ true → property_step_answer s at n ≡ 0
      unfolding property_step_answer order
      property-whole e = rw (ne_eqb _ _ some, fixed, ← size, e)

-- what an answer 0 of a step says
pub record There (s : List ℕ) (at n : ℕ) : Type 0 where
  pub some : 0 < n
  pub whole : at + 40 + field s (at + 36) 4 ≤ length s

pub there : (s : List ℕ) (at n : ℕ) → property_step_answer s at n ≡ 0 → There s at n
unfolding property_step_answer
there s at n done =
    let a = passed (eqb n 0) 24 _ (omega arith) done in
    let b = passed (not (leb (at + 40) (length s))) 13 _ (omega arith) a.1 in
    let d = passed (not (leb (at + 40 + field s (at + 36) 4) (length s))) 13 _ (omega arith) b.1 in
    let z : n ≡ 0 → ⊥ = eqb-false _ _ a.0 in
    record { some = omega arith; whole = leb-true _ _ (not-false _ d.0) }

-- ---- one step, by its answer

module _ (s : List ℕ) (at n number : ℕ) (e : number ≡ property_step_answer s at n) where
  pub property-refused : (r : PropertyStep) → (number ≡ 0 → ⊥) → r ≡ no_property_step number → r ≡ property_step s at n
  unfolding property_step
  property-refused r z q = rw (← e, ne_eqb _ _ z) q

  pub property-done : number ≡ 0 → ◌≡◌ {A = PropertyStep} (property_met s at n) (property_step s at n)
  unfolding property_step
  property-done z = rw (← e, eq-eqb _ _ z)

-- ---- a walk

module _ (s : List ℕ) (at n : ℕ) (room : at ≤ length s) (good : properties_answer n (drop at s) ≡ 0) where
  -- none is left
  over : n ≡ 0 → property_step s at n ≡ no_property_step 24
  unfolding property_step
  over z = rw (none_left s at n z)

  -- one is there
  module _ (some : n ≡ 0 → ⊥) where
    front : Accepted (drop at s)
    front = accepted (drop at s) (properties-parts n (drop at s) (omega arith) good).0

    size : field (drop at s) 36 4 ≡ field s (at + 36) 4
    size = field-drop s at 36 4 (omega arith)

    met : property_step s at n ≡ property_met s at n
    met =
        let l = length-drop at s in
        let f = front in
        let z = size in
        let fixed : at + 40 ≤ length s = omega arith in
        let whole : at + 40 + field s (at + 36) 4 ≤ length s = omega arith in
        sym (property-done s at n _ refl (property-whole s at n some (le-leb _ _ fixed) _ refl (le-leb _ _ whole)))

  answered : (property_step s at n).answer ≡ 0 → n ≡ 0 → ⊥
  answered done z = let h : ◌≡◌ {A = ℕ} 24 0 = sym (ap (λ (x : PropertyStep). x.answer) (over z)) ∙ done in omega arith

  refused : ((property_step s at n).answer ≡ 0 → ⊥) → n ≡ 0
  refused q = ⊎_elim (λ t. eqb-true _ _ t) (λ f. absurd (q (ap (λ (x : PropertyStep). x.answer) (met (eqb-false _ _ f))))) (true-or-false (eqb n 0))

  first : property_place_of (property_step s at n) ≡ content_place n (drop at s) 0 at
  first =
      ⊎_elim
      (λ t. let z = eqb-true n 0 t in ap property_place_of (over z) ∙ sym (place_none n (drop at s) 0 at z))
      (λ f.
      let some : n ≡ 0 → ⊥ = eqb-false n 0 f in
      let e : at + 40 + field s (at + 36) 4 ≡ at + property_length (drop at s) = let z = size some in omega arith in
      ap property_place_of (met some) ∙ rw e (sym (place_here n (drop at s) 0 at (omega arith) refl)))
      (true-or-false (eqb n 0))

  stopped : ((property_step s at n).answer ≡ 0 → ⊥) → (k : ℕ) → content_place n (drop at s) (suc k) at ≡ property_place_of (property_step s at n)
  stopped q k =
      let z = refused q in
      place_none n (drop at s) (suc k) at z ∙ sym (ap property_place_of (over z))

  module _ (done : (property_step s at n).answer ≡ 0) where
    some : n ≡ 0 → ⊥
    some = answered done

    to : (property_step s at n).to ≡ at + property_length (drop at s)
    to = let z = size some in ap (λ (x : PropertyStep). x.to) (met some) ∙ omega arith

    left : (property_step s at n).left ≡ n - 1
    left = ap (λ (x : PropertyStep). x.left) (met some)

    rest : drop (property_step s at n).to s ≡ drop (property_length (drop at s)) (drop at s)
    rest = rw to (sym (drop-drop (property_length (drop at s)) at s))

    on : (property_step s at n).to ≤ length s
    on =
        let l = length-drop at s in
        let f = front some in
        rw to (omega arith)

    good-on : properties_answer (property_step s at n).left (drop (property_step s at n).to s) ≡ 0
    good-on = rw (left, rest) (properties-parts n (drop at s) (omega (arith, some)) good).1

    later : (k : ℕ) → content_place n (drop at s) (suc k) at ≡ content_place (property_step s at n).left (drop (property_step s at n).to s) k (property_step s at n).to
    later k =
        let one : suc k - 1 ≡ k = omega arith in
        rw (left, rest, to) (rw one at (place-later n (drop at s) (suc k) at (omega (arith, some)) (omega arith)))

-- the fields by their place
abbrev read_at : List ℕ → Place → ReadProperty
read_at s x = cond (eqb x.answer 0) (record { answer = 0; property = property_at (drop (x.from - 40) s) }) (record { answer = x.answer; property = no_property })

guid-drop : (s : List ℕ) (k at : ℕ) → guid_at (drop k s) at ≡ guid_at s (k + at)
guid-drop s k at =
    let e : k + (at + 8) ≡ k + at + 8 = omega arith in
    rw (field-drop s k at 8 (omega arith), field-drop s k (at + 8) 8 (omega arith), e)

fields_at : (s : List ℕ) (at n : ℕ) → property_read_of (property_step s at n) ≡ read_at s (property_place_of (property_step s at n))
unfolding property_step
fields_at s at n =
    by-test (λ (x : PropertyStep). property_read_of x ≡ read_at s (property_place_of x)) (eqb (property_step_answer s at n) 0) _ _
    (λ t.
    let e : at + 40 - 40 ≡ at = omega arith in
    let z : at + 0 ≡ at = omega arith in
    rw (e, guid-drop s at 0, guid-drop s at 16, field-drop s at 32 4 (omega arith), z))
    (λ f. rw f)

-- a walk over the properties of an accepted context meets them by number
pub properties-walked : PropertiesWalked
unfolding context_cursor property_place read_property
properties-walked s k ok =
    let a = context-accepted s ok in
    let step : Cursor → PropertyStep = λ c. property_step s c.at c.left in
    let answer : PropertyStep → ℕ = λ x. x.answer in
    let next : PropertyStep → Cursor = λ x. record { answer = 0; at = x.to; left = x.left } in
    let start : Cursor = record { answer = 0; at = 48; left = field s 40 4 } in
    let places =
    walked step answer next property_place_of
    (λ (c : Cursor) (k : ℕ). content_place c.left (drop c.at s) k c.at)
    (λ c. (c.at ≤ length s) × (properties_answer c.left (drop c.at s) ≡ 0))
    (λ c g. first s c.at c.left g.0 g.1)
    (λ c g done k.
    ((on s c.at c.left g.0 g.1 done, good-on s c.at c.left g.0 g.1 done), later s c.at c.left g.0 g.1 done k))
    (λ c g q k. stopped s c.at c.left g.0 g.1 q k)
    start (a.0, a.1) k in
    let reads = each_step step answer next (λ x. property_read_of x ≡ read_at s (property_place_of x)) (λ c. fields_at s c.at c.left) start k in
    rw (eq-eqb _ _ ok) (places, reads ∙ ap (read_at s) places)
