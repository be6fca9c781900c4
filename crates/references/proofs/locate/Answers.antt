-- `locate`: the reference's refusals; then the binding's place in the list, moved to where the list begins.
use Prim.Native.Nat.{ℕ, ◌+◌, ◌≤◌}
use mathlib.Core.Path.{◌≡◌, refl, sym, ap, ◌∙◌}
use mathlib.Core.List.{List}
use native.Mathlib.Omega.{arith}
use borrow.Author.Tests.{eq-eqb, ne_eqb}
use lib.ListN.{length}
use borrow.Author.Rules.{rules}
use Rattle.std.specs.Prelude.{Err}
use Rattle.kinds.proofs.Answering.{refusal-not-0}
use Rattle.fields.specs.Fields.{field}
use Rattle.bindings.specs.Bindings.{refusal, binding_at, bytes_at}
use Rattle.bindings.specs.declared.Part.{Part}
use Rattle.bindings.specs.declared.Place.{Place}
use Rattle.bindings.specs.Bindings.{Within}
use Rattle.bindings.proofs.ListAnswers.{within-binding}
use Rattle.references.specs.References.{fixed_size, reference_answer, tail_place, tail_of, moved, reference_binding}
use Rattle.references.proofs.Forms.{tail-number, tail-start, tail_within, tail-length, binding-refused, binding-custom, binding-listed}
use Rattle.references.proofs.locate.Goals as goal

-- the place found lies in the tail
record Room (s : List ℕ) (x y : Place) : Type 0 where
  order : y.from ≤ y.to
  end : x.from + y.to ≤ length s

module _ (s : List ℕ) (p : Part) (k : ℕ) (x : Place) (placed : x ≡ tail_place s) where
  refused : (x.answer ≡ 0 → ⊥) → x ≡ reference_binding s p k
  refused h = placed ∙ sym (binding-refused _ _ _ (λ z. h (ap (λ (y : Place). y.answer) placed ∙ z)))

  module _ (good : x.answer ≡ 0) where
    done : reference_answer s ≡ 0
    done = sym (tail-number s) ∙ ap (λ (y : Place). y.answer) (sym placed) ∙ good

    start : x.from ≡ fixed_size (field s 4 4)
    start = ap (λ (y : Place). y.from) placed ∙ tail-start s done

    custom : (f : ℕ) → f ≡ field s 4 4 → f ≡ 4 → refusal 24 ≡ reference_binding s p k
    custom f flags h = sym (binding-custom _ _ _ done (sym flags ∙ h))

    module _ (y : Place) (found : y ≡ binding_at (bytes_at s x) p k) where
      listed : y ≡ binding_at (tail_of s) p k
      listed = found ∙ ap (λ (z : Place). binding_at (bytes_at s z) p k) placed

      room : Room s x y
      room =
          let w = within-binding (tail_of s) p k in
          let n = tail-length s done in
          let from = start in
          rw listed (record { order = omega arith; end = omega arith })

      module _ (f : ℕ) (flags : f ≡ field s 4 4) (other : f ≡ 4 → ⊥) where
        moves : reference_binding s p k ≡ moved x.from y
        moves = rw (listed, start) (binding-listed _ _ _ done (λ z. other (flags ∙ z)))

        none : (y.answer ≡ 0 → ⊥) → y ≡ reference_binding s p k
        none h = rw (moves, ne_eqb _ _ h)

        here : y.answer ≡ 0 → record { answer = 0; from = x.from + y.from; to = x.from + y.to } ≡ reference_binding s p k
        here h = rw (moves, eq-eqb _ _ h)

inside : (s : List ℕ) (x : Place) → x ≡ tail_place s → Within (length s) x
inside s x e = rw e (tail_within s)

pub returns-in_err-tail : goal.returns-in_err-tail
returns-in_err-tail c =
    let placed = c.in_err-tail.ensures in
    let bad = refusal-not-0 c.in_err-tail.field-0.0 in
    let r : c.from_residual.result ≡ Err c.in_err-tail.field-0.0 = search rules in
    rw r (search refused)

pub returns-then-read_u32-eq-CUSTOM : goal.returns-then-read_u32-eq-CUSTOM
returns-then-read_u32-eq-CUSTOM c =
    let placed = c.in_ok-tail.ensures in
    search custom

pub slice_bounds-locate-count : goal.slice_bounds-locate-count
slice_bounds-locate-count c = (inside _ _ c.in_ok-tail.ensures).0

pub slice_bounds-locate-start : goal.slice_bounds-locate-start
slice_bounds-locate-start c = (inside _ _ c.in_ok-tail.ensures).0

pub slice_bounds-locate-end : goal.slice_bounds-locate-end
slice_bounds-locate-end c = (inside _ _ c.in_ok-tail.ensures).1

pub returns-in_err-found : goal.returns-in_err-found
returns-in_err-found c =
    let placed = c.in_ok-tail.ensures in
    let found = c.in_err-found.ensures in
    let bad = refusal-not-0 c.in_err-found.field-0.0 in
    let r : c.from_residual-in_err-found.result ≡ Err c.in_err-found.field-0.0 = search rules in
    rw r (search none)

pub overflow_add-result : goal.overflow_add-result
overflow_add-result c =
    let h = room _ _ _ _ c.in_ok-tail.ensures refl _ c.in_ok-found.ensures in
    omega arith

pub overflow_add-result-2 : goal.overflow_add-result-2
overflow_add-result-2 c =
    let h = room _ _ _ _ c.in_ok-tail.ensures refl _ c.in_ok-found.ensures in
    omega arith

pub returns : goal.returns
returns c =
    here _ _ _ _ c.in_ok-tail.ensures refl _ c.in_ok-found.ensures _ c.read_u32.ensures c.if-read_u32-eq-CUSTOM.false refl
