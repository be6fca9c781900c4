-- The cycle {element, layout}: what an element and a layout answer, by their definitions.
use Prim.Native.Nat.{ℕ, ◌+◌, ◌-◌, ◌≤◌}
use mathlib.Core.Path.{◌≡◌, sym, ◌∙◌}
use mathlib.Core.Bool.{Bool, true, false, not}
use mathlib.Core.List.{List}
use native.Mathlib.Omega.{arith}
use native.Mathlib.Nat.{add-sub_cancel_left}
use borrow.Author.Tests.{not-true, not-false}
use lib.ListN.{length, take, drop}
use borrow.Author.Rules.{rules}
use Rattle.std.specs.Prelude.{Err}
use Rattle.kinds.proofs.Answering.{refusal-not-0}
use Rattle.fields.specs.Fields.{field}
use Rattle.fields.proofs.Fields.{take_rest}
use Rattle.elements.specs.Elements.{content_size, element_content, is_reference, element_front, element_end, element_answer}
use Rattle.elements.proofs.ElementAnswers.{content-within, element-short, element-other, element-refused, element-inner}
use Rattle.references.specs.References.{list_end, head_answer, plain_answer, extended_front, layout_answer}
use Rattle.references.proofs.Forms.{headed, opened, extended-room, layout-none, layout-head, layout-plain, layout-front, layout-element}
use Rattle.references.proofs.+element_layout.Goals as goal

-- ---- `element`

module _ (t : List ℕ) (d front : ℕ) (judged : front ≡ element_front t) where
  front-refused : (front ≡ 0 → ⊥) → front ≡ element_answer (layout_answer d) t
  front-refused h = judged ∙ sym (element-short _ _ (λ z. h (judged ∙ z)))

  module _ (good : front ≡ 0) (n : ℕ) (size : n ≡ content_size t) where
    -- the part that the code takes
    content : take (24 + n - 24) (drop 24 t) ≡ element_content t
    content = rw (add-sub_cancel_left 24 n, size)

    within : 24 + n ≤ length t
    within = let w = content-within t (sym judged ∙ good) in omega arith

    module _ (b : Bool) (tested : b ≡ is_reference (take (24 + n - 24) (drop 24 t))) where
      other-data : not b ≡ true → (r : ℕ) → r ≡ element_end t → r ≡ element_answer (layout_answer d) t
      other-data h r e = e ∙ sym (element-other _ _ (sym judged ∙ good) (sym (rw content at tested) ∙ not-true _ h))

      module _ (yes : not b ≡ false) (k : ℕ) (inner : k ≡ layout_answer d (take (24 + n - 24) (drop 24 t))) where
        inner-refused : (k ≡ 0 → ⊥) → k ≡ element_answer (layout_answer d) t
        inner-refused h =
            let e = rw content at inner in e ∙ sym (element-refused _ _ (sym judged ∙ good) (sym (rw content at tested) ∙ not-false _ yes) (λ z. h (e ∙ z)))

        inner-done : k ≡ 0 → (r : ℕ) → r ≡ element_end t → r ≡ element_answer (layout_answer d) t
        inner-done h r e = e ∙ sym (element-inner _ _ (sym judged ∙ good) (sym (rw content at tested) ∙ not-false _ yes) (sym (rw content at inner) ∙ h))

-- ---- `layout`

module _ (s : List ℕ) (d : ℕ) (some : d ≡ 0 → ⊥) (head : ℕ) (judged : head ≡ head_answer s) where
  head-refused : (head ≡ 0 → ⊥) → head ≡ layout_answer d s
  head-refused h = judged ∙ sym (layout-head _ _ (omega arith) (λ z. h (judged ∙ z)))

  module _ (good : head ≡ 0) (f : ℕ) (flags : f ≡ field s 4 4) where
    plain_form : (f ≡ 8 → ⊥) → (r : ℕ) → r ≡ plain_answer s → r ≡ layout_answer d s
    plain_form h r e = e ∙ sym (layout-plain _ _ (omega arith) (sym judged ∙ good) (λ z. h (flags ∙ z)))

    module _ (extended : f ≡ 8) (front : ℕ) (opens : front ≡ extended_front s) where
      opening-refused : (front ≡ 0 → ⊥) → front ≡ layout_answer d s
      opening-refused h = opens ∙ sym (layout-front _ _ (omega arith) (sym judged ∙ good) (sym flags ∙ extended) (λ z. h (opens ∙ z)))

      element-last : front ≡ 0 → (end : ℕ) → end ≡ list_end s → (r : ℕ) → r ≡ element_answer (layout_answer (d - 1)) (take (length s - (end + 8)) (drop (end + 8) s))
          → r ≡ layout_answer d s
      element-last h end ends r e = rw (take_rest s (end + 8), ends) at e ∙ sym (layout-element _ _ (omega arith) (sym judged ∙ good) (sym flags ∙ extended) (sym opens ∙ h))

-- the fixed fields are there
fixed-room : (s : List ℕ) (head : ℕ) → head ≡ head_answer s → head ≡ 0 → (f : ℕ) → f ≡ field s 4 4 → f ≡ 8 → 68 ≤ length s
fixed-room s head judged good f flags e = extended-room _ (sym flags ∙ e) (headed _ (sym judged ∙ good)).fixed

-- the element begins inside
begins : (s : List ℕ) (front : ℕ) → front ≡ extended_front s → front ≡ 0 → (end : ℕ) → end ≡ list_end s → end + 8 ≤ length s
begins s front e h end ends = let room = (opened s (sym e ∙ h)).room in omega arith

-- an answer 0 of the code is one of the rule
ended : (t : List ℕ) (r : ℕ) → r ≡ element_front t → r ≡ 0 → element_front t ≡ 0
ended t r e h = sym e ∙ h

headed-done : (s : List ℕ) (r : ℕ) → r ≡ head_answer s → r ≡ 0 → head_answer s ≡ 0
headed-done s r e h = sym e ∙ h

pub element-returns-in_err-element_front : goal.element-returns-in_err-element_front
element-returns-in_err-element_front t c =
    let e = c.in_err-element_front.ensures in
    let bad = refusal-not-0 c.in_err-element_front.field-0.0 in
    let r : c.from_residual.result ≡ Err c.in_err-element_front.field-0.0 = search rules in
    rw r (search front-refused)

pub element-slice_bounds-is_reference-end : goal.element-slice_bounds-is_reference-end
element-slice_bounds-is_reference-end t c =
    let e = c.in_ok-element_front.ensures in
    search within

pub element-returns-then-not-is_reference : goal.element-returns-then-not-is_reference
element-returns-then-not-is_reference t c =
    let e = c.in_ok-element_front.ensures in
    search other-data

pub element-slice_bounds-layout-end : goal.element-slice_bounds-layout-end
element-slice_bounds-layout-end t c =
    let e = c.in_ok-element_front.ensures in
    search within

pub element-returns-in_err-layout : goal.element-returns-in_err-layout
element-returns-in_err-layout t c =
    let front = c.in_ok-element_front.ensures in
    let e = c.in_err-layout.ensures in
    let bad = refusal-not-0 c.in_err-layout.field-0.0 in
    let r : c.from_residual-in_err-layout.result ≡ Err c.in_err-layout.field-0.0 = search rules in
    rw r (search inner-refused)

pub element-returns : goal.element-returns
element-returns t c =
    let e = c.in_ok-element_front.ensures in
    let inner = c.in_ok-layout.ensures in
    search inner-done

pub layout-returns-then-d-eq0 : goal.layout-returns-then-d-eq0
layout-returns-then-d-eq0 t c = sym (layout-none _ _ c.if-d-eq0.true)

pub layout-returns-in_err-head_answer : goal.layout-returns-in_err-head_answer
layout-returns-in_err-head_answer t c =
    let e = c.in_err-head_answer.ensures in
    let bad = refusal-not-0 c.in_err-head_answer.field-0.0 in
    let r : c.from_residual.result ≡ Err c.in_err-head_answer.field-0.0 = search rules in
    rw r (search head-refused)

pub layout-returns-then-read_u32-ne-EXTENDED : goal.layout-returns-then-read_u32-ne-EXTENDED
layout-returns-then-read_u32-ne-EXTENDED t c =
    let e = c.in_ok-head_answer.ensures in
    search plain_form

pub layout-extended_front-requires : goal.layout-extended_front-requires
layout-extended_front-requires t c =
    let e = c.in_ok-head_answer.ensures in
    search fixed-room

pub layout-returns-in_err-extended_front : goal.layout-returns-in_err-extended_front
layout-returns-in_err-extended_front t c =
    let head = c.in_ok-head_answer.ensures in
    let e = c.in_err-extended_front.ensures in
    let bad = refusal-not-0 c.in_err-extended_front.field-0.0 in
    let r : c.from_residual-in_err-extended_front.result ≡ Err c.in_err-extended_front.field-0.0 = search rules in
    rw r (search opening-refused)

pub layout-slice_bounds-element-count : goal.layout-slice_bounds-element-count
layout-slice_bounds-element-count t c =
    let e = c.in_ok-extended_front.ensures in
    search begins

pub layout-slice_bounds-element-start : goal.layout-slice_bounds-element-start
layout-slice_bounds-element-start t c =
    let e = c.in_ok-extended_front.ensures in
    search begins

pub layout-returns : goal.layout-returns
layout-returns t c =
    let head = c.in_ok-head_answer.ensures in
    let front = c.in_ok-extended_front.ensures in
    search element-last
