-- Laws of an element, and of what an answer 0 says.
use Prim.Native.Nat.{ℕ, suc, zero, ◌+◌, ◌-◌, ◌<◌, ◌≤◌}
use mathlib.Core.Path.{◌≡◌, refl}
use mathlib.Core.Bool.{true, false}
use mathlib.Core.List.{List}
use native.Mathlib.Omega.{arith}
use borrow.Author.Tests.{eqb-false, ltb-false}
use lib.Dec.{eqb, ltb}
use lib.ListN.{length}
use Rattle.kinds.specs.Refusals.{differ, order}
use Rattle.kinds.proofs.Refusing.{eq-differ, ne-differ, differ-false, passed, last_row}
use Rattle.fields.specs.Fields.{field, guid_at, all_zero, rounded}
use Rattle.fields.proofs.Fields.{zero_field}
use Rattle.elements.specs.Elements.{is_nil, is_reference, content_size, element_length, padding, element_front, element_end, element_content, element_answer}

pub add-sub-add : (k a b : ℕ) → k + a - (k + b) ≡ a - b
add-sub-add k a b = omega arith

-- ---- what an answer 0 says

pos : (n : ℕ) → (n ≡ 0 → ⊥) → 0 < n
pos zero h = absurd (h refl)
pos (suc n) h = omega arith

-- up to the data of an element
pub record Fronted (t : List ℕ) : Type 0 where
  pub named : is_nil (guid_at t 0) ≡ false
  pub some : 0 < content_size t
  pub fixed : 24 ≤ length t
  pub size : field t 20 4 ≡ rounded (content_size t)
  pub whole : element_length t ≤ length t

pub fronted : (t : List ℕ) → element_front t ≡ 0 → Fronted t
unfolding element_front
fronted t done =
    let a = passed (ltb (length t) 16) 13 _ (omega arith) done in
    let b = passed (is_nil (guid_at t 0)) 14 _ (omega arith) a.1 in
    let d = passed (ltb (length t) 20) 13 _ (omega arith) b.1 in
    let e = passed (eqb (content_size t) 0) 14 _ (omega arith) d.1 in
    let none = eqb-false (content_size t) 0 e.0 in
    let some : 0 < content_size t = pos (content_size t) none in
    let f = passed (ltb (length t) 24) 13 _ (omega arith) e.1 in
    let g = passed (differ (field t 20 4) (rounded (content_size t))) 14 _ (omega arith) f.1 in
    let h = passed (ltb (length t) (element_length t)) 13 _ (omega arith) g.1 in
    record {
      named = b.0;
      some = some;
      fixed = ltb-false _ _ f.0;
      size = differ-false _ _ g.0;
      whole = ltb-false _ _ h.0;
    }

-- the data lies in the bytes, before the padding
pub content-within : (t : List ℕ) → element_front t ≡ 0 → (content_size t ≤ field t 20 4) × (24 + field t 20 4 ≤ length t)
content-within t done =
    let f = fronted t done in
    let size = f.size in
    let whole = f.whole in
    (omega arith, omega arith)

-- ---- the element

module _ (g : List ℕ → ℕ) (t : List ℕ) where
  pub element-short : (element_front t ≡ 0 → ⊥) → element_answer g t ≡ element_front t
  unfolding element_answer order
  element-short h = rw (ne-differ _ _ h)

  module _ (front : element_front t ≡ 0) where
    pub element-other : is_reference (element_content t) ≡ false → element_answer g t ≡ element_end t
    unfolding element_answer order
    element-other h = rw (eq-differ _ _ front, h) (last_row (element_end t))

    pub element-refused : is_reference (element_content t) ≡ true → (g (element_content t) ≡ 0 → ⊥) → element_answer g t ≡ g (element_content t)
    unfolding element_answer order
    element-refused h e = rw (eq-differ _ _ front, h, ne-differ _ _ e)

    pub element-inner : is_reference (element_content t) ≡ true → g (element_content t) ≡ 0 → element_answer g t ≡ element_end t
    unfolding element_answer order
    element-inner h e = rw (eq-differ _ _ front, h, eq-differ _ _ e) (last_row (element_end t))

-- the padding is zero, as the code asks it by the two sizes
pub padding-zero : (t : List ℕ) (a b : ℕ) → element_front t ≡ 0 → a ≡ content_size t → b ≡ field t 20 4 → eqb (field t (24 + a) (24 + b - (24 + a))) 0 ≡ all_zero (padding t)
padding-zero t a b done p q =
    let w = content-within t done in
    rw (p, q, add-sub-add 24 (field t 20 4) (content_size t)) (zero_field t (24 + content_size t) (field t 20 4 - content_size t) (omega arith))
