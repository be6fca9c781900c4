-- An accepted reference and the one in its element, at any depth.
use Prim.Native.Nat.{ℕ, suc, ◌+◌, ◌-◌, ◌<◌, ◌≤◌}
use mathlib.Core.Path.{◌≡◌, sym, ap, ◌∙◌}
use mathlib.Core.Bool.{true, false, ◌&&◌}
use mathlib.Core.List.{List}
use native.Mathlib.Omega.{arith}
use native.Mathlib.Nat.{add-sub_cancel_left}
use borrow.Author.Tests.{eq-eqb, ne_eqb, eqb-true}
use lib.ListN.{length, take, drop, length-drop}
use lib.Seq.{drop-drop}
use Rattle.kinds.proofs.Refusing.{by-test, passed_on}
use Rattle.lists.proofs.Tests.{and_left, and_right}
use Rattle.fields.specs.Fields.{field}
use Rattle.references.specs.References.{block_at, is_form, list_end, element_start, content_start, content_length, content_of, head_answer, extended_front, extended_answer}
use Rattle.references.specs.References.{form_answer, layout_by, layout_answer, has_nil, nil_given, names_nil, is_extended, reference_answer, element_place}
use Rattle.elements.specs.Elements.{is_reference, element_front, element_content, content_answer, element_answer}
use Rattle.references.specs.Parts.{ElementFound}
use Rattle.bindings.specs.Bindings.{refusal}
use Rattle.bindings.specs.Bindings.{Within}
use lib.Dec.{eqb}
use Rattle.elements.proofs.ElementAnswers.{content-within}
use Rattle.references.proofs.Forms.{by_form_lem, Headed, headed, opened}
use Rattle.fields.proofs.Fields.{field-drop}

-- ---- an accepted reference

pub record Level (d : ℕ) (s : List ℕ) : Type 0 where
  pub head : Headed s
  pub form : form_answer (layout_answer d) s ≡ 0

pub level : (d : ℕ) (s : List ℕ) → 0 < d → layout_answer d s ≡ 0 → Level (d - 1) s
unfolding layout_answer layout_by
level d s h done =
    let k : d ≡ suc (d - 1) = omega arith in
    let e : layout_answer (suc (d - 1)) s ≡ 0 = ap (λ (n : ℕ). layout_answer n s) (sym k) ∙ done in
    let a = passed_on (head_answer s) _ e in
    let b = passed_on (form_answer (layout_answer (d - 1)) s) _ a.1 in
    record { head = headed s a.0; form = b.0 }

pub level-form : (d : ℕ) (s : List ℕ) → 0 < d → layout_answer d s ≡ 0 → is_form (field s 4 4) ≡ true
level-form d s h done = (level d s h done).head.form

-- ---- the data of its element

pub content-from : (s : List ℕ) → take (content_length s) (drop (content_start s) s) ≡ element_content (drop (element_start s) s)
content-from s = rw (field-drop s (element_start s) 16 4 (omega arith), drop-drop 24 (element_start s) s)

pub record Inside (d : ℕ) (s : List ℕ) : Type 0 where
  pub within : content_start s + content_length s ≤ length s
  pub inner : is_reference (take (content_length s) (drop (content_start s) s)) ≡ true → layout_answer (d - 1) (take (content_length s) (drop (content_start s) s)) ≡ 0

pub inside : (d : ℕ) (s : List ℕ) → 0 < d → layout_answer d s ≡ 0 → field s 4 4 ≡ 8 → Inside d s
unfolding form_answer extended_answer element_answer
inside d s h done f =
    let e : extended_answer (layout_answer (d - 1)) s ≡ 0 = rw f at (level d s h done).form in
    let a = passed_on (extended_front s) _ e in
    let t = drop (element_start s) s in
    let b = (passed_on (element_answer (layout_answer (d - 1)) t) _ a.1).0 in
    let g = passed_on (element_front t) _ b in
    let i = (passed_on (content_answer (layout_answer (d - 1)) (element_content t)) _ g.1).0 in
    let w = content-within t g.0 in
    let room = (opened s a.0).room in
    let n = length-drop (element_start s) s in
    let size = field-drop s (element_start s) 16 4 (omega arith) in
    record {
      within = omega arith;
      inner = λ r. rw (content-from s) (rw (rw (content-from s) at r) at i);
    }

-- the part that the code takes, from the list's end e and the size n
pub content-slice : (s : List ℕ) (e n : ℕ) → e ≡ list_end s → n ≡ field s (e + 32 - 8) 4 → take (e + 32 + n - (e + 32)) (drop (e + 32) s) ≡ take (content_length s) (drop (content_start s) s)
content-slice s e n p q =
    let a : e + 32 - 8 ≡ element_start s + 16 = omega arith in
    let b : e + 32 ≡ content_start s = omega arith in
    rw (add-sub_cancel_left (e + 32) n, q, a, b)

pub content-end : (s : List ℕ) (e n : ℕ) → e ≡ list_end s → n ≡ field s (e + 32 - 8) 4 → content_start s + content_length s ≤ length s → e + 32 + n ≤ length s
content-end s e n p q w =
    let a : e + 32 - 8 ≡ element_start s + 16 = omega arith in
    let m : n ≡ content_length s = q ∙ ap (λ (k : ℕ). field s k 4) a in
    omega arith

-- ---- zero identifiers

pub nil-none : (d : ℕ) (s : List ℕ) → d ≡ 0 → names_nil d s ≡ false
unfolding names_nil
nil-none d s e = rw e

module _ (d : ℕ) (s : List ℕ) (some : 0 < d) where
  nil-some : names_nil d s ≡ nil_given (names_nil (d - 1)) (field s 4 4) (block_at s 24) (content_of s)
  unfolding names_nil
  nil-some = let k : d ≡ suc (d - 1) = omega arith in ap (λ (n : ℕ). names_nil n s) k

  pub nil-custom : field s 4 4 ≡ 4 → names_nil d s ≡ false
  nil-custom f = nil-some ∙ (rw f)

  module _ (form : is_form (field s 4 4) ≡ true) (other : field s 4 4 ≡ 4 → ⊥) where
    pub nil-here : has_nil (block_at s 24) ≡ true → names_nil d s ≡ true
    nil-here b =
        nil-some
        ∙ by_form_lem (field s 4 4) form (λ e. rw e b) (λ e. rw e b) (λ e. absurd (other e)) (λ e. rw (e, b))

    pub nil-plain : has_nil (block_at s 24) ≡ false → (field s 4 4 ≡ 8 → ⊥) → names_nil d s ≡ false
    nil-plain b far =
        nil-some
        ∙ by_form_lem (field s 4 4) form (λ e. rw e b) (λ e. rw e b) (λ e. absurd (other e)) (λ e. absurd (far e))

  module _ (f : field s 4 4 ≡ 8) (b : has_nil (block_at s 24) ≡ false) where
    pub nil-other : is_reference (take (content_length s) (drop (content_start s) s)) ≡ false → names_nil d s ≡ false
    nil-other r = nil-some ∙ (rw (f, b, r))

    pub nil-inner : is_reference (take (content_length s) (drop (content_start s) s)) ≡ true → names_nil d s ≡ names_nil (d - 1) (take (content_length s) (drop (content_start s) s))
    nil-inner r = nil-some ∙ (rw (f, b, r))

-- ---- where the data of element k stands

module _ (s : List ℕ) (k : ℕ) where
  pub found-refused : (reference_answer s ≡ 0 → ⊥) → ElementFound s k (refusal (reference_answer s))
  unfolding element_place
  found-refused h = record { place = rw (ne_eqb _ _ h); within = (omega arith, omega arith) }

  module _ (done : reference_answer s ≡ 0) where
    pub found_none : (is_extended (field s 4 4) && eqb k 0) ≡ false → ElementFound s k (refusal 24)
    unfolding element_place
    found_none h = record { place = rw (eq-eqb _ _ done, h); within = (omega arith, omega arith) }

    pub found-content : field s 4 4 ≡ 8 → k ≡ 0 → ElementFound s k (record { answer = 0; from = content_start s; to = content_start s + content_length s })
    unfolding element_place reference_answer
    found-content f z =
        let layout : layout_answer 8 s ≡ 0 = (passed_on (layout_answer 8 s) _ done).0 in
        let w = (inside 8 s (omega arith) layout f).within in
        record { place = rw (eq-eqb _ _ done, f, z); within = (omega arith, w) }

-- it lies in s
pub element-within : (s : List ℕ) (k : ℕ) → Within (length s) (element_place s k)
unfolding element_place
element-within s k =
    by-test (Within (length s)) (eqb (reference_answer s) 0) _ _
    (λ e.
    by-test (Within (length s)) (is_extended (field s 4 4) && eqb k 0) _ _
    (λ z. (found-content s k (eqb-true _ _ e) (eqb-true _ _ (and_left _ (eqb k 0) z)) (eqb-true _ _ (and_right (is_extended (field s 4 4)) _ z))).within)
    (λ z. omega arith))
    (λ e. omega arith)

pub none-form : (f k : ℕ) → (f ≡ 8 → ⊥) → (is_extended f && eqb k 0) ≡ false
none-form f k h = rw (ne_eqb f 8 h)

pub none-later : (f k : ℕ) → f ≡ 8 → (k ≡ 0 → ⊥) → (is_extended f && eqb k 0) ≡ false
none-later f k e h = rw (e, ne_eqb k 0 h)
