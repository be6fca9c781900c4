-- `tail_place`: a refusal; the list of an extended reference; or from the end of the fixed fields to the end.
use Prim.Native.Nat.{ℕ}
use mathlib.Core.Path.{◌≡◌, sym, ap, ◌∙◌}
use mathlib.Core.List.{List}
use borrow.Author.Tests.{eq-eqb, ne_eqb}
use lib.ListN.{length}
use borrow.Author.Rules.{rules}
use Rattle.std.specs.Prelude.{Err}
use Rattle.kinds.proofs.Answering.{refusal-not-0}
use Rattle.fields.specs.Fields.{field}
use Rattle.bindings.specs.Bindings.{refusal}
use Rattle.bindings.specs.declared.Place.{Place}
use Rattle.references.specs.References.{fixed_size, list_end, reference_answer, tail_place}
use Rattle.references.proofs.tail_place.Goals as goal

module _ (s : List ℕ) (n : ℕ) (judged : n ≡ reference_answer s) where
  refused-place : (n ≡ 0 → ⊥) → refusal n ≡ tail_place s
  unfolding tail_place
  refused-place h = rw (ne_eqb _ _ (λ z. h (judged ∙ z))) (ap refusal judged)

module _ (s : List ℕ) (n : ℕ) (judged : n ≡ reference_answer s) (good : n ≡ 0) (f : ℕ) (flags : f ≡ field s 4 4) (k : ℕ) where
  listed : f ≡ 8 → k ≡ list_end s → record { answer = 0; from = 68; to = k } ≡ tail_place s
  unfolding tail_place fixed_size
  listed h e = rw (eq-eqb _ _ (sym judged ∙ good), sym flags ∙ h, e)

  fixed : (f ≡ 8 → ⊥) → k ≡ fixed_size f → record { answer = 0; from = k; to = length s } ≡ tail_place s
  unfolding tail_place
  fixed h e = rw (eq-eqb _ _ (sym judged ∙ good), ne_eqb (field s 4 4) 8 (λ z. h (flags ∙ z)), e, flags)

pub returns-in_err-reference_answer : goal.returns-in_err-reference_answer
returns-in_err-reference_answer c =
    let e = c.in_err-reference_answer.ensures in
    let bad = refusal-not-0 c.in_err-reference_answer.field-0.0 in
    let r : c.from_residual.result ≡ Err c.in_err-reference_answer.field-0.0 = search rules in
    rw r (search refused-place)

pub returns-then-f-eq-EXTENDED : goal.returns-then-f-eq-EXTENDED
returns-then-f-eq-EXTENDED c =
    let e = c.in_ok-reference_answer.ensures in
    search listed

pub returns : goal.returns
returns c =
    let e = c.in_ok-reference_answer.ensures in
    search fixed
