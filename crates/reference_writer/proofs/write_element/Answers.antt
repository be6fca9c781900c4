-- `write_element`: a run of writes from the front.
use Rattle.fields.specs.Fields.{written, encode, guid_bytes, rounded, zeros}
use Prim.Native.Nat.{ℕ, ◌+◌, ◌-◌}
use mathlib.Core.Path.{◌≡◌, refl, ◌∙◌}
use mathlib.Core.List.{List, ◌++◌, append_assoc}
use native.Mathlib.Omega.{arith}
use lib.ListN.{length, length-replicate}
use Rattle.kinds.specs.declared.Guid.{Guid}
use Rattle.fields.proofs.Fields.{first_field, then-field, then-guid, then-bytes}
use Rattle.elements.specs.Elements.{element_bytes}
use Rattle.references.specs.References.{extended_signature}
use Rattle.reference_writer.proofs.write_element.Goals as goal

-- the writes in a row
module _ (id : Guid) (x b : List ℕ) (size : length b ≡ 32 + rounded (length x)) (w : ℕ) (whole : w ≡ rounded (length x)) (b₁ b₂ b₃ b₄ b₅ b₆ b₇ : List ℕ) where
  element-written : b₁ ≡ written b 0 (encode 4 1) → b₂ ≡ written b₁ 4 (encode 4 extended_signature) → b₃ ≡ written b₂ 8 (guid_bytes id) → b₄ ≡ written b₃ 24 (encode 4 (length x))
      → b₅ ≡ written b₄ 28 (encode 4 w) → b₆ ≡ written b₅ 32 x → b₇ ≡ written b₆ (32 + length x) (zeros (w - length x))
      → b₇ ≡ written b 0 (encode 4 1 ++ encode 4 extended_signature ++ element_bytes id x)
  unfolding element_bytes
  element-written count mark named length₁ length₂ copied padded =
      let run = then-field 4 extended_signature (first_field 4 1 count) (omega arith) mark in
      let run2 = then-guid id run (omega arith) named in
      let run3 = then-field 4 (length x) run2 (omega arith) length₁ in
      let run4 = then-field 4 w run3 (omega arith) length₂ in
      let run5 = then-bytes x (length x) run4 refl (omega arith) copied in
      let at : 32 + length x ≡ 0 + (32 + length x) = omega arith in
      let run6 = then-bytes (zeros (w - length x)) (w - length x) run5 (length-replicate {A = ℕ} (w - length x) 0) (omega arith) (rw at at padded) in
      run6.holds ∙ (rw whole (simp append_assoc))

pub returns : goal.returns
returns c =
    element-written _ _ _ c.requires.1 _ c.rounded-m.ensures _ _ _ _ _ _ _ c.write_u32.ensures c.write_u32-2.ensures c.write_guid.ensures
    c.write_u32-3.ensures c.write_u32-4.ensures c.copy.ensures c.fill.ensures
