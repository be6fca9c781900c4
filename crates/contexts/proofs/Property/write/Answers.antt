-- `Property::write`: the fields and the data are a run of writes from the front.
use Prim.Native.Nat.{ℕ, ◌+◌, ◌<◌}
use mathlib.Core.Path.{◌≡◌, refl, sym, ◌∙◌}
use mathlib.Core.List.{List, append_assoc}
use native.Mathlib.Omega.{arith}
use borrow.Author.Tests.{eq-eqb, ne_eqb}
use lib.ListN.{length}
use borrow.Author.Rules.{rules}
use Rattle.std.specs.Prelude.{Err}
use Rattle.kinds.proofs.Answering.{refusal-some, refusal-eqb}
use Rattle.fields.specs.Fields.{written, encode, guid_bytes}
use Rattle.fields.proofs.Fields.{first-guid, then-guid, then-field, then-bytes}
use Rattle.contexts.specs.Contexts.{property_bytes, write_property_answer, write_property}
use Rattle.contexts.specs.declared.Property.{Property}
use Rattle.contexts.proofs.Properties.{property-writable}
use Rattle.contexts.proofs.Property.write.Goals as goal

pub returns-in_err-judge : goal.returns-in_err-judge
unfolding write_property
returns-in_err-judge c =
    let number = c.in_err-judge.ensures in
    let r : c.from_residual.result ≡ Err c.in_err-judge.field-0.0 = search rules in
    rw r (simp (ne_eqb _ _ (refusal-some _ number)) (λ u. record { answer = number u; length = 0 }), simp (refusal-eqb c.in_err-judge.field-0.0))

module _ (p : Property) (x b : List ℕ) where
  answered : 0 ≡ write_property_answer p x (length b) → record { answer = 0; length = 40 + length x } ≡ write_property p x (length b)
  unfolding write_property
  answered judged = simp (eq-eqb _ _ (sym judged))

  small : 0 ≡ write_property_answer p x (length b) → length x < 4294967296
  small judged = let h = (property-writable _ _ _ (sym judged)).small in omega arith

  -- the writes in a row
  module _ (judged : 0 ≡ write_property_answer p x (length b)) (b₁ b₂ b₃ b₄ b₅ : List ℕ) where
    property-written : b₁ ≡ written b 0 (guid_bytes p.clsid) → b₂ ≡ written b₁ 16 (guid_bytes p.policy) → b₃ ≡ written b₂ 32 (encode 4 p.flags)
        → b₄ ≡ written b₃ 36 (encode 4 (length x)) → b₅ ≡ written b₄ 40 x → b₅ ≡ written b 0 (property_bytes p x)
    unfolding property_bytes
    property-written clsid policy flags size content =
        let room = (property-writable _ _ _ (sym judged)).room in
        let run = then-guid p.policy (first-guid p.clsid clsid) (omega arith) policy in
        let run2 = then-field 4 p.flags run (omega arith) flags in
        let run3 = then-field 4 (length x) run2 (omega arith) size in
        (then-bytes x (length x) run3 refl (omega arith) content).holds ∙ simp append_assoc

pub returns : goal.returns
returns c =
    let judged = c.in_ok-judge.ensures in (
      answered _ _ c.args.buf.now judged,
      property-written _ _ _ judged _ _ _ _ _ c.write_guid.ensures c.write_guid-2.ensures
          c.write_u32.ensures c.write_u32-2.ensures c.copy.ensures,
    )

pub overflow_cast-content : goal.overflow_cast-content
overflow_cast-content c = let judged = c.in_ok-judge.ensures in search small
