-- Laws of the forms of a reference, of its element, and of what an answer 0 says.
use Prim.Native.Nat.{ℕ, suc, ◌+◌, ◌-◌, ◌*◌, ◌<◌, ◌≤◌}
use mathlib.Core.Path.{◌≡◌, refl, sym, ap, ◌∙◌}
use mathlib.Core.Bool.{Bool, true, false, not, ◌&&◌, ◌||◌}
use mathlib.Core.List.{List}
use native.Mathlib.Omega.{arith}
use borrow.Author.Tests.{eqb-true, eq-eqb, ne_eqb, ltb-false, not-false}
use lib.Dec.{eqb, ltb}
use lib.ListN.{length, drop, length-drop}
use lib.Seq.{length-take-le}
use Rattle.kinds.specs.Refusals.{differ, order}
use Rattle.kinds.proofs.Refusing.{by-test, eq-differ, ne-differ, differ-false, passed, passed_on, last_row}
use Rattle.fields.specs.Fields.{field, guid_at}
use Rattle.fields.proofs.Fields.{field-drop}
use Rattle.bindings.specs.Bindings.{list_length, front_answer, binding_at, refusal, bytes_at}
use Rattle.bindings.specs.declared.Part.{Part}
use Rattle.bindings.specs.declared.Place.{Place}
use Rattle.bindings.specs.Bindings.{Within}
use Rattle.bindings.proofs.ListAnswers.{within-binding}
use Rattle.contexts.specs.Contexts.{property_place, is_marshaler}
use Rattle.contexts.proofs.Properties.{property-within}
use Rattle.elements.specs.Elements.{signature, element_answer}
use Rattle.references.specs.References.{by_form, is_form, is_custom, fixed_size, head_answer, plain_answer, form_answer, layout_by, layout_answer, list_end, element_start, extended_signature}
use Rattle.references.specs.References.{extended_front, extended_answer, reference_answer, reference_at, tail_end, tail_place, tail_of, moved, reference_binding, context_place}

-- where the list of an extended reference ends, by its N
pub list-end : (s : List ℕ) → 72 + 2 * field s 68 2 ≡ list_end s
unfolding list_length
list-end s = rw (field-drop s 68 0 2 (omega arith)) (omega arith)

-- ---- forms

or_cases : {P : Type 0} (a b : Bool) → (a || b) ≡ true → (a ≡ true → P) → (b ≡ true → P) → P
or_cases true b e f g = f refl
or_cases false b e f g = g e

and_left : (a b : Bool) → (a && b) ≡ true → a ≡ true
and_left true b e = refl
and_left false b e = e

and_none : (a : Bool) → (a && false) ≡ false
and_none true = refl
and_none false = refl

-- flags that name a form are those of one of the forms
pub by_form_lem : {P : Type 0} (f : ℕ) → is_form f ≡ true → (f ≡ 1 → P) → (f ≡ 2 → P) → (f ≡ 4 → P) → (f ≡ 8 → P) → P
by_form_lem f h a b c d =
    or_cases (eqb f 1) (eqb f 2 || (eqb f 4 || eqb f 8)) h (λ e. a (eqb-true f 1 e))
    (λ k. or_cases (eqb f 2) (eqb f 4 || eqb f 8) k (λ e. b (eqb-true f 2 e))
    (λ l. or_cases (eqb f 4) (eqb f 8) l (λ e. c (eqb-true f 4 e)) (λ e. d (eqb-true f 8 e))))

pub by-other : {A : Type 0} (f : ℕ) (a b c d e : A) → (f ≡ 1 → ⊥) → (f ≡ 2 → ⊥) → (f ≡ 4 → ⊥) → (f ≡ 8 → ⊥) → by_form f a b c d e ≡ e
by-other f a b c d e h i j k = rw (ne_eqb f 1 h, ne_eqb f 2 i, ne_eqb f 4 j, ne_eqb f 8 k)

pub size-most : (f : ℕ) → fixed_size f ≤ 80
unfolding fixed_size
size-most f =
    let P : ℕ → Type 0 = λ n. n ≤ 80 in
    by-test P (eqb f 1) 64 _ (λ e. omega arith)
    (λ e. by-test P (eqb f 2) 80 _ (λ e. omega arith)
    (λ e. by-test P (eqb f 4) 48 _ (λ e. omega arith) (λ e. by-test P (eqb f 8) 68 0 (λ e. omega arith) (λ e. omega arith))))

-- ---- what an answer 0 says

pub custom-room : {n : ℕ} (f : ℕ) → f ≡ 4 → fixed_size f ≤ n → 48 ≤ n
unfolding fixed_size
custom-room f e h = rw e at h

pub record Headed (s : List ℕ) : Type 0 where
  pub long : 24 ≤ length s
  pub signed : field s 0 4 ≡ signature
  pub form : is_form (field s 4 4) ≡ true
  pub fixed : fixed_size (field s 4 4) ≤ length s

pub headed : (s : List ℕ) → head_answer s ≡ 0 → Headed s
unfolding head_answer
headed s done =
    let f = field s 4 4 in
    let long = passed (ltb (length s) 24) 13 _ (omega arith) done in
    let signed = passed (differ (field s 0 4) signature) 14 _ (omega arith) long.1 in
    let form = passed (not (is_form f)) 14 _ (omega arith) signed.1 in
    let fixed = passed (ltb (length s) (fixed_size f)) 13 _ (omega arith) form.1 in
    record {
      long = ltb-false _ _ long.0;
      signed = differ-false _ _ signed.0;
      form = not-false _ form.0;
      fixed = ltb-false _ _ fixed.0;
    }

-- up to the element of an extended reference
pub record Opened (s : List ℕ) : Type 0 where
  pub signed : field s 64 4 ≡ extended_signature
  pub list : front_answer (drop 68 s) ≡ 0
  pub number : field s (list_end s) 4 ≡ 1
  pub again : field s (list_end s + 4) 4 ≡ extended_signature
  pub room : element_start s ≤ length s

pub opened : (s : List ℕ) → extended_front s ≡ 0 → Opened s
unfolding extended_front
opened s done =
    let a = passed (differ (field s 64 4) extended_signature) 14 _ (omega arith) done in
    let b = passed_on (front_answer (drop 68 s)) _ a.1 in
    let d = passed (ltb (length s) (list_end s + 4)) 13 _ (omega arith) b.1 in
    let e = passed (not (eqb (field s (list_end s) 4) 1)) 14 _ (omega arith) d.1 in
    let f = passed (ltb (length s) (list_end s + 8)) 13 _ (omega arith) e.1 in
    let g = passed (differ (field s (list_end s + 4) 4) extended_signature) 14 _ (omega arith) f.1 in
    record {
      signed = differ-false _ _ a.0;
      list = b.0;
      number = differ-false _ _ e.0;
      again = differ-false _ _ g.0;
      room = ltb-false _ _ f.0;
    }

-- ---- the reference

pub layout-none : (d : ℕ) (s : List ℕ) → d ≡ 0 → layout_answer d s ≡ 21
unfolding layout_answer
layout-none d s e = rw e

layout-some : (d : ℕ) (s : List ℕ) → 0 < d → layout_answer d s ≡ layout_by (layout_answer (d - 1)) s
unfolding layout_answer
layout-some d s h = let k : d ≡ suc (d - 1) = omega arith in ap (λ (n : ℕ). layout_answer n s) k

module _ (d : ℕ) (s : List ℕ) (some : 0 < d) where
  pub layout-head : (head_answer s ≡ 0 → ⊥) → layout_answer d s ≡ head_answer s
  unfolding layout_by order
  layout-head h = layout-some d s some ∙ (rw (ne-differ _ _ h))

  module _ (head : head_answer s ≡ 0) where
    layout-form : layout_answer d s ≡ form_answer (layout_answer (d - 1)) s
    unfolding layout_by order
    layout-form = layout-some d s some ∙ (rw (eq-differ _ _ head) (last_row (form_answer (layout_answer (d - 1)) s)))

    pub layout-plain : (field s 4 4 ≡ 8 → ⊥) → layout_answer d s ≡ plain_answer s
    unfolding form_answer
    layout-plain f = layout-form ∙ (rw (ne_eqb _ _ f))

    module _ (f : field s 4 4 ≡ 8) where
      layout-extended : layout_answer d s ≡ extended_answer (layout_answer (d - 1)) s
      unfolding form_answer
      layout-extended = layout-form ∙ (rw (eq-eqb _ _ f))

      pub layout-front : (extended_front s ≡ 0 → ⊥) → layout_answer d s ≡ extended_front s
      unfolding extended_answer order
      layout-front h = layout-extended ∙ (rw (ne-differ _ _ h))

      pub layout-element : extended_front s ≡ 0 → layout_answer d s ≡ element_answer (layout_answer (d - 1)) (drop (element_start s) s)
      unfolding extended_answer order
      layout-element h =
          layout-extended ∙ (rw (eq-differ _ _ h) (last_row (element_answer (layout_answer (d - 1)) (drop (element_start s) s))))

pub extended-room : {n : ℕ} (f : ℕ) → f ≡ 8 → fixed_size f ≤ n → 68 ≤ n
unfolding fixed_size
extended-room f e h = rw e at h

-- ---- an accepted reference

pub layout-parts : (d : ℕ) (s : List ℕ) → layout_answer (suc d) s ≡ 0 → (head_answer s ≡ 0) × (form_answer (layout_answer d) s ≡ 0)
unfolding layout_answer layout_by
layout-parts d s done = let a = passed_on (head_answer s) _ done in (a.0, (passed_on (form_answer (layout_answer d) s) _ a.1).0)

answer-parts : (s : List ℕ) → reference_answer s ≡ 0 → (head_answer s ≡ 0) × (form_answer (layout_answer 7) s ≡ 0)
unfolding reference_answer
answer-parts s done = layout-parts 7 s (passed_on (layout_answer 8 s) _ done).0

pub accepted : (s : List ℕ) → reference_answer s ≡ 0 → Headed s
accepted s done = headed s (answer-parts s done).0

-- the fields that are read name the form that the bytes name
pub flags-at : (s : List ℕ) → is_form (field s 4 4) ≡ true → (reference_at s).flags ≡ field s 4 4
unfolding reference_at
flags-at s h = by_form_lem (field s 4 4) h (λ e. rw e) (λ e. rw e) (λ e. rw e) (λ e. rw e)

-- ---- the tail

pub tail-number : (s : List ℕ) → (tail_place s).answer ≡ reference_answer s
unfolding tail_place
tail-number s =
    by-test (λ (x : Place). x.answer ≡ reference_answer s) (eqb (reference_answer s) 0) _ _ (λ e. sym (eqb-true _ _ e)) (λ e. refl)

pub tail-start : (s : List ℕ) → reference_answer s ≡ 0 → (tail_place s).from ≡ fixed_size (field s 4 4)
unfolding tail_place
tail-start s done = rw (eq-eqb _ _ done)

pub tail-end : (s : List ℕ) → reference_answer s ≡ 0 → (tail_place s).to ≡ tail_end s
unfolding tail_place
tail-end s done = rw (eq-eqb _ _ done)

list-room : (s : List ℕ) → reference_answer s ≡ 0 → field s 4 4 ≡ 8 → list_end s ≤ length s
unfolding form_answer extended_answer
list-room s done f =
    let e : extended_answer (layout_answer 7) s ≡ 0 = rw f at (answer-parts s done).1 in
    let room = (opened s (passed_on (extended_front s) _ e).0).room in
    omega arith

tail-inside : (s : List ℕ) → reference_answer s ≡ 0 → (fixed_size (field s 4 4) ≤ tail_end s) × (tail_end s ≤ length s)
unfolding fixed_size
tail-inside s done =
    let a = accepted s done in
    let fixed = a.fixed in
    by_form_lem (field s 4 4) a.form
    (λ e. rw e (rw e at fixed, omega arith))
    (λ e. rw e (rw e at fixed, omega arith))
    (λ e. rw e (rw e at fixed, omega arith))
    (λ e. rw e (omega arith, list-room s done e))

-- the tail lies in s
pub tail_within : (s : List ℕ) → Within (length s) (tail_place s)
unfolding tail_place
tail_within s =
    by-test (Within (length s)) (eqb (reference_answer s) 0) _ _ (λ e. tail-inside s (eqb-true _ _ e)) (λ e. omega arith)

-- the bytes of its place are the tail
pub tail-bytes : (s : List ℕ) → bytes_at s (tail_place s) ≡ tail_of s
tail-bytes s = refl

pub tail-length : (s : List ℕ) → reference_answer s ≡ 0 → fixed_size (field s 4 4) + length (tail_of s) ≤ length s
tail-length s done =
    let w = tail_within s in
    let from = tail-start s done in
    let n = length-take-le ((tail_place s).to - (tail_place s).from) (drop (tail_place s).from s) (rw length-drop (omega arith)) in
    omega arith

-- ---- a binding

-- the reference's refusal
pub binding-refused : (s : List ℕ) (p : Part) (k : ℕ) → ((tail_place s).answer ≡ 0 → ⊥) → reference_binding s p k ≡ tail_place s
unfolding reference_binding tail_place
binding-refused s p k bad = rw (ne_eqb (reference_answer s) 0 (λ z. bad (tail-number s ∙ z)))

-- a custom reference has none
pub binding-custom : (s : List ℕ) (p : Part) (k : ℕ) → reference_answer s ≡ 0 → field s 4 4 ≡ 4 → reference_binding s p k ≡ refusal 24
unfolding reference_binding
binding-custom s p k done e = rw (eq-eqb _ _ done, e)

-- the binding of the list
pub binding-listed : (s : List ℕ) (p : Part) (k : ℕ) → reference_answer s ≡ 0 → (field s 4 4 ≡ 4 → ⊥)
    → reference_binding s p k ≡ moved (fixed_size (field s 4 4)) (binding_at (tail_of s) p k)
unfolding reference_binding
binding-listed s p k done other = rw (eq-eqb _ _ done, ne_eqb _ _ other)

pub within-moved : (m n : ℕ) (x : Place) → Within m x → Within (n + m) (moved n x)
within-moved m n x h = by-test (Within (n + m)) (eqb x.answer 0) _ x (λ e. omega arith) (λ e. omega arith)

within_more : (m n : ℕ) (x : Place) → m ≤ n → Within m x → Within n x
within_more m n x l h = omega arith

-- the place of a binding lies in s
pub within-reference : (s : List ℕ) (p : Part) (k : ℕ) → Within (length s) (reference_binding s p k)
unfolding reference_binding
within-reference s p k =
    by-test (Within (length s)) (eqb (reference_answer s) 0) _ _
    (λ e. by-test (Within (length s)) (is_custom (field s 4 4)) _ _
    (λ z. omega arith)
    (λ z.
    let b = binding_at (tail_of s) p k in
    within_more _ _ (moved (fixed_size (field s 4 4)) b) (tail-length s (eqb-true _ _ e)) (within-moved (length (tail_of s)) (fixed_size (field s 4 4)) b (within-binding (tail_of s) p k))))
    (λ e. omega arith)

-- the place of a property's data lies in s
pub context-within : (s : List ℕ) (k : ℕ) → Within (length s) (context_place s k)
unfolding context_place fixed_size
context-within s k =
    by-test (Within (length s)) (eqb (reference_answer s) 0) _ _
    (λ e. by-test (Within (length s)) (is_custom (field s 4 4) && is_marshaler (guid_at s 24)) _ _
    (λ z.
    let f = and_left (is_custom (field s 4 4)) (is_marshaler (guid_at s 24)) z in
    let room : 48 ≤ length s = custom-room (field s 4 4) (eqb-true _ _ f) (accepted s (eqb-true _ _ e)).fixed in
    let size = length-drop 48 s in
    let l : 48 + length (drop 48 s) ≤ length s = omega arith in
    within_more _ _ (moved 48 (property_place (drop 48 s) k)) l (within-moved (length (drop 48 s)) 48 (property_place (drop 48 s) k) (property-within (drop 48 s) k)))
    (λ z. omega arith))
    (λ e. omega arith)

-- the rows of a property's place
module _ (s : List ℕ) (k : ℕ) where
  pub property-refused : (reference_answer s ≡ 0 → ⊥) → context_place s k ≡ refusal (reference_answer s)
  unfolding context_place
  property-refused h = rw (ne_eqb _ _ h)

  module _ (done : reference_answer s ≡ 0) where
    pub property-none : (field s 4 4 ≡ 4 → ⊥) → context_place s k ≡ refusal 24
    unfolding context_place
    property-none f = rw (eq-eqb _ _ done, ne_eqb _ _ f)

    pub property-other : is_marshaler (guid_at s 24) ≡ false → context_place s k ≡ refusal 24
    unfolding context_place
    property-other m = rw (eq-eqb _ _ done, m, and_none (is_custom (field s 4 4)))

    pub property-moved : field s 4 4 ≡ 4 → is_marshaler (guid_at s 24) ≡ true → context_place s k ≡ moved 48 (property_place (drop 48 s) k)
    unfolding context_place
    property-moved f m = rw (eq-eqb _ _ done, f, m)
