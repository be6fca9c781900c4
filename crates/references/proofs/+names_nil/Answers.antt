-- The cycle {names_nil}: where levels are left, the names are those of the block, and of the reference in the element.
use Prim.Native.Nat.{ℕ, ◌+◌, ◌-◌, ◌≤◌}
use mathlib.Core.Path.{◌≡◌, sym, ◌∙◌}
use mathlib.Core.Bool.{Bool, true, false, not}
use mathlib.Core.List.{List}
use native.Mathlib.Omega.{arith}
use borrow.Author.Tests.{not-true}
use lib.ListN.{length, take, drop}
use Rattle.fields.specs.Fields.{field}
use Rattle.elements.specs.Elements.{is_reference}
use Rattle.references.specs.References.{list_end, block_at, layout_answer, has_nil, names_nil}
use Rattle.references.proofs.Nested.{level-form, Inside, inside, content-slice, content-end, nil-none, nil-custom, nil-here, nil-plain, nil-other, nil-inner}
use Rattle.references.proofs.+names_nil.Goals as goal

-- with levels left and the flags read
module _ (s : List ℕ) (d : ℕ) (accepted : layout_answer d s ≡ 0) (some : d ≡ 0 → ⊥) (f : ℕ) (flags : f ≡ field s 4 4) where
  custom : f ≡ 4 → false ≡ names_nil d s
  custom h = sym (nil-custom _ _ (omega arith) (sym flags ∙ h))

  module _ (block : f ≡ 4 → ⊥) (b : Bool) (judged : b ≡ has_nil (block_at s 24)) where
    here : b ≡ true → true ≡ names_nil d s
    here h = sym (nil-here _ _ (omega arith) (level-form _ _ (omega arith) accepted) (λ z. block (flags ∙ z)) (sym judged ∙ h))

    module _ (named : b ≡ false) where
      plain : (f ≡ 8 → ⊥) → false ≡ names_nil d s
      plain h = sym (nil-plain _ _ (omega arith) (level-form _ _ (omega arith) accepted) (λ z. block (flags ∙ z)) (sym judged ∙ named) (λ z. h (flags ∙ z)))

      module _ (extended : f ≡ 8) (e n : ℕ) (ends : e ≡ list_end s) (size : n ≡ field s (e + 32 - 8) 4)
          (r : Bool) (tested : r ≡ is_reference (take (e + 32 + n - (e + 32)) (drop (e + 32) s))) where
        other-data : not r ≡ true → false ≡ names_nil d s
        other-data h = sym (nil-other _ _ (omega arith) (sym flags ∙ extended) (sym judged ∙ named) (sym (rw (content-slice s e n ends size) at tested) ∙ not-true _ h))

        inner-names : r ≡ true → (x : Bool) → x ≡ names_nil (d - 1) (take (e + 32 + n - (e + 32)) (drop (e + 32) s)) → x ≡ names_nil d s
        inner-names h x g =
            rw (content-slice s e n ends size) at g
            ∙ sym (nil-inner _ _ (omega arith) (sym flags ∙ extended) (sym judged ∙ named) (sym (rw (content-slice s e n ends size) at tested) ∙ h))

-- the data of the element
module _ (s : List ℕ) (d : ℕ) (accepted : layout_answer d s ≡ 0) (some : d ≡ 0 → ⊥) (f : ℕ) (flags : f ≡ field s 4 4) (extended : f ≡ 8)
    (e n : ℕ) (ends : e ≡ list_end s) (size : n ≡ field s (e + 32 - 8) 4) where
  inside-data : Inside d s
  inside-data = inside _ _ (omega arith) accepted (sym flags ∙ extended)

  data-within : e + 32 + n ≤ length s
  unfolding inside-data
  data-within = content-end s e n ends size inside-data.within

  inner-accepted : (r : Bool) → r ≡ is_reference (take (e + 32 + n - (e + 32)) (drop (e + 32) s)) → r ≡ true
      → layout_answer (d - 1) (take (e + 32 + n - (e + 32)) (drop (e + 32) s)) ≡ 0
  unfolding inside-data
  inner-accepted r tested h = rw (content-slice s e n ends size) (inside-data.inner (sym (rw (content-slice s e n ends size) at tested) ∙ h))

pub returns-then-d-eq0 : goal.returns-then-d-eq0
returns-then-d-eq0 t c = sym (nil-none _ _ c.if-d-eq0.true)

pub returns-then-f-eq-CUSTOM : goal.returns-then-f-eq-CUSTOM
returns-then-f-eq-CUSTOM t c = search custom

pub returns-then-nil_block : goal.returns-then-nil_block
returns-then-nil_block t c = search here

pub returns-then-f-ne-EXTENDED : goal.returns-then-f-ne-EXTENDED
returns-then-f-ne-EXTENDED t c = search plain

pub slice_bounds-is_reference-end : goal.slice_bounds-is_reference-end
slice_bounds-is_reference-end t c = search data-within

pub returns-then-not-is_reference : goal.returns-then-not-is_reference
returns-then-not-is_reference t c = search other-data

pub slice_bounds-names_nil-end : goal.slice_bounds-names_nil-end
slice_bounds-names_nil-end t c =
    data-within _ _ c.requires c.if-d-eq0.false _ c.read_u32-f.ensures c.if-f-ne-EXTENDED.false _ _ c.list_end-from.ensures.0 c.read_u32.ensures

pub names_nil-requires : goal.names_nil-requires
names_nil-requires t c =
    let inner = inner-accepted _ _ c.requires c.if-d-eq0.false _ c.read_u32-f.ensures c.if-f-ne-EXTENDED.false _ _ c.list_end-from.ensures.0 in
    (omega arith, inner c.read_u32.ensures _ c.is_reference.ensures c.if-not-is_reference.false)

pub returns : goal.returns
returns t c =
    let named = inner-names _ _ c.requires c.if-d-eq0.false _ c.read_u32-f.ensures c.if-f-eq-CUSTOM.false _ in
    named c.nil_block.ensures c.if-nil_block.false c.if-f-ne-EXTENDED.false _ _ c.list_end-from.ensures.0 c.read_u32.ensures _
    c.is_reference.ensures c.if-not-is_reference.false _ c.names_nil.ensures
