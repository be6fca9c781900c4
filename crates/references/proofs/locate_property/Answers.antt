-- `locate_property`: the rows of `context_place`.
use Prim.Native.Nat.{ℕ, ◌+◌, ◌-◌, ◌≤◌}
use mathlib.Core.Path.{◌≡◌, refl, sym, ap, ◌∙◌}
use mathlib.Core.Bool.{Bool, true, false, not}
use mathlib.Core.List.{List}
use native.Mathlib.Omega.{arith}
use borrow.Author.Tests.{eq-eqb, ne_eqb, not-true, not-false}
use lib.ListN.{length, take, drop, length-drop}
use borrow.Author.Rules.{rules}
use Rattle.std.specs.Prelude.{Err}
use Rattle.kinds.proofs.Answering.{refusal-not-0}
use Rattle.kinds.specs.declared.Guid.{Guid}
use Rattle.fields.specs.Fields.{field, guid_at}
use Rattle.fields.proofs.Fields.{take_rest}
use Rattle.bindings.specs.Bindings.{refusal}
use Rattle.bindings.specs.declared.Place.{Place}
use Rattle.contexts.specs.Contexts.{property_place, is_marshaler}
use Rattle.contexts.proofs.Properties.{property-within}
use Rattle.references.specs.References.{moved, reference_answer, context_place}
use Rattle.references.proofs.Forms.{accepted, custom-room, property-refused, property-none, property-other, property-moved}
use Rattle.references.proofs.locate_property.Goals as goal

-- the place found lies in the object data
record Room (s : List ℕ) (x : Place) : Type 0 where
  order : x.from ≤ x.to
  end : 48 + x.to ≤ length s

module _ (s : List ℕ) (k n : ℕ) (judged : n ≡ reference_answer s) where
  refused : (n ≡ 0 → ⊥) → refusal n ≡ context_place s k
  refused h = ap refusal judged ∙ sym (property-refused _ _ (λ z. h (judged ∙ z)))

  module _ (good : n ≡ 0) (f : ℕ) (flags : f ≡ field s 4 4) where
    no-custom : (f ≡ 4 → ⊥) → refusal 24 ≡ context_place s k
    no-custom h = sym (property-none _ _ (sym judged ∙ good) (λ z. h (flags ∙ z)))

    module _ (custom : f ≡ 4) (g : Guid) (clsid : g ≡ guid_at s 24) (b : Bool) (tested : b ≡ is_marshaler g) where
      no-context : not b ≡ true → refusal 24 ≡ context_place s k
      no-context h = sym (property-other _ _ (sym judged ∙ good) (ap is_marshaler (sym clsid) ∙ sym tested ∙ not-true _ h))

      module _ (yes : not b ≡ false) (x : Place) (found : x ≡ property_place (take (length s - 48) (drop 48 s)) k) where
        moves : context_place s k ≡ moved 48 x
        moves =
            property-moved _ _ (sym judged ∙ good) (sym flags ∙ custom) (ap is_marshaler (sym clsid) ∙ sym tested ∙ not-false _ yes)
            ∙ ap (moved 48) (sym (rw (take_rest s 48) at found))

        none : (x.answer ≡ 0 → ⊥) → x ≡ context_place s k
        none h = rw (moves, ne_eqb _ _ h)

        here : x.answer ≡ 0 → record { answer = 0; from = 48 + x.from; to = 48 + x.to } ≡ context_place s k
        here h = rw (moves, eq-eqb _ _ h)

module _ (s : List ℕ) (n : ℕ) (judged : n ≡ reference_answer s) (good : n ≡ 0) (f : ℕ) (flags : f ≡ field s 4 4) (custom : f ≡ 4) where
  fixed : 48 ≤ length s
  fixed = custom-room _ (sym flags ∙ custom) (accepted s (sym judged ∙ good)).fixed

  room : (k : ℕ) (x : Place) → x ≡ property_place (take (length s - 48) (drop 48 s)) k → Room s x
  room k x e =
      let h = fixed in
      let w = property-within (drop 48 s) k in
      let size = length-drop 48 s in
      rw (e, take_rest s 48) (record { order = omega arith; end = omega arith })

pub returns-in_err-reference_answer : goal.returns-in_err-reference_answer
returns-in_err-reference_answer c =
    let e = c.in_err-reference_answer.ensures in
    let bad = refusal-not-0 c.in_err-reference_answer.field-0.0 in
    let r : c.from_residual.result ≡ Err c.in_err-reference_answer.field-0.0 = search rules in
    rw r (search refused)

pub returns-then-read_u32-ne-CUSTOM : goal.returns-then-read_u32-ne-CUSTOM
returns-then-read_u32-ne-CUSTOM c =
    let e = c.in_ok-reference_answer.ensures in
    search no-custom

pub returns-then-not-is_marshaler : goal.returns-then-not-is_marshaler
returns-then-not-is_marshaler c =
    let e = c.in_ok-reference_answer.ensures in
    search no-context

pub slice_bounds-locate-count : goal.slice_bounds-locate-count
slice_bounds-locate-count c =
    let e = c.in_ok-reference_answer.ensures in
    search fixed

pub slice_bounds-locate-start : goal.slice_bounds-locate-start
slice_bounds-locate-start c =
    let e = c.in_ok-reference_answer.ensures in
    search fixed

pub returns-in_err-found : goal.returns-in_err-found
returns-in_err-found c =
    let e = c.in_ok-reference_answer.ensures in
    let found = c.in_err-found.ensures in
    let bad = refusal-not-0 c.in_err-found.field-0.0 in
    let r : c.from_residual-in_err-found.result ≡ Err c.in_err-found.field-0.0 = search rules in
    rw r (search none)

pub overflow_add-result : goal.overflow_add-result
overflow_add-result c =
    let e = c.in_ok-reference_answer.ensures in
    let h = room _ _ e refl _ c.read_u32.ensures c.if-read_u32-ne-CUSTOM.false _ _ c.in_ok-found.ensures in
    omega arith

pub overflow_add-result-2 : goal.overflow_add-result-2
overflow_add-result-2 c =
    let e = c.in_ok-reference_answer.ensures in
    let h = room _ _ e refl _ c.read_u32.ensures c.if-read_u32-ne-CUSTOM.false _ _ c.in_ok-found.ensures in
    omega arith

pub returns : goal.returns
returns c =
    here _ _ _ c.in_ok-reference_answer.ensures refl _ c.read_u32.ensures c.if-read_u32-ne-CUSTOM.false _ c.read_guid.ensures _ c.is_marshaler.ensures c.if-not-is_marshaler.false-raw _ c.in_ok-found.ensures refl
