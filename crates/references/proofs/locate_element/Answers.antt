-- `locate_element`: the rows of `element_place`.
use Prim.Native.Nat.{ℕ, ◌+◌}
use mathlib.Core.Path.{◌≡◌, sym, ◌∙◌}
use mathlib.Core.List.{List}
use borrow.Author.Rules.{rules}
use Rattle.std.specs.Prelude.{Err}
use Rattle.kinds.proofs.Answering.{refusal-not-0}
use Rattle.fields.specs.Fields.{field}
use Rattle.bindings.specs.Bindings.{refusal}
use Rattle.bindings.specs.declared.Place.{Place}
use Rattle.references.specs.References.{content_start, content_length, reference_answer}
use Rattle.references.specs.Parts.{ElementFound}
use Rattle.references.proofs.Nested.{found-refused, found_none, found-content, none-form, none-later}
use Rattle.std.specs.declared.ops.Range.{Range}
use Rattle.references.proofs.locate_element.Goals as goal

module _ (s : List ℕ) (k n : ℕ) (judged : n ≡ reference_answer s) where
  refused-found : (n ≡ 0 → ⊥) → ElementFound s k (refusal n)
  refused-found h = rw judged (found-refused _ _ (λ z. h (judged ∙ z)))

  module _ (good : n ≡ 0) (f : ℕ) (flags : f ≡ field s 4 4) where
    other-form : (f ≡ 8 → ⊥) → ElementFound s k (refusal 24)
    other-form h = (found_none _ _ (sym judged ∙ good) (none-form _ k (λ z. h (flags ∙ z))))

    later : f ≡ 8 → (k ≡ 0 → ⊥) → ElementFound s k (refusal 24)
    later h z = (found_none _ _ (sym judged ∙ good) (none-later _ k (sym flags ∙ h) z))

    first : f ≡ 8 → k ≡ 0 → (x : Range ℕ) → x ≡ record { start = content_start s; end = content_start s + content_length s } → ElementFound s k (record { answer = 0; from = x.start; to = x.end })
    first h z x e = rw e (found-content _ _ (sym judged ∙ good) (sym flags ∙ h) z)

pub returns-in_err-reference_answer : goal.returns-in_err-reference_answer
returns-in_err-reference_answer c =
    let e = c.in_err-reference_answer.ensures in
    let bad = refusal-not-0 c.in_err-reference_answer.field-0.0 in
    let r : c.from_residual.result ≡ Err c.in_err-reference_answer.field-0.0 = search rules in
    rw r (search refused-found)

pub returns-then-read_u32-ne-EXTENDED : goal.returns-then-read_u32-ne-EXTENDED
returns-then-read_u32-ne-EXTENDED c =
    let e = c.in_ok-reference_answer.ensures in
    search other-form

pub returns-then-k-ne0 : goal.returns-then-k-ne0
returns-then-k-ne0 c =
    let e = c.in_ok-reference_answer.ensures in
    search later

pub returns : goal.returns
returns c =
    let e = c.in_ok-reference_answer.ensures in
    search first
