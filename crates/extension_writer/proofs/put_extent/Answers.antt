-- `extensions::put_extent`: the fields, the data and the zeros are a run of writes.
use Prim.Native.Nat.{ℕ, ◌+◌, ◌-◌, ◌≤◌}
use mathlib.Core.Path.{◌≡◌, refl, ◌∙◌}
use native.Mathlib.Omega.{arith}
use lib.ListN.{length, length-replicate}
use mathlib.Core.List.{List, append_assoc}
use Rattle.fields.proofs.Fields.{first_field, then-field, then-bytes}
use Rattle.extensions.specs.Extensions.{extent_bytes}
use Rattle.fields.specs.Fields.{written, encode, rounded, zeros}
use Rattle.extension_writer.proofs.put_extent.Goals as goal

-- the writes in a row
module _ (b part : List ℕ) (at low high w : ℕ) (same : w ≡ rounded (length part)) (room : at + 24 + rounded (length part) ≤ length b) (b₁ b₂ b₃ b₄ b₅ b₆ : List ℕ) where
  extent-written : b₁ ≡ written b at (encode 4 w) → b₂ ≡ written b₁ (at + 4) (encode 8 low) → b₃ ≡ written b₂ (at + 12) (encode 8 high)
      → b₄ ≡ written b₃ (at + 20) (encode 4 (length part)) → b₅ ≡ written b₄ (at + 24) part → b₆ ≡ written b₅ (at + 24 + length part) (zeros (w - length part))
      → b₆ ≡ written b at (extent_bytes (record { id = record { low = low; high = high }; pointer = 0; content = part }))
  unfolding extent_bytes
  extent-written size first second count copied padded =
      let run = then-field 8 low (first_field 4 w size) (omega arith) first in
      let run2 = then-field 8 high run (omega arith) second in
      let run3 = then-field 4 (length part) run2 (omega arith) count in
      let run4 = then-bytes part (length part) run3 refl (omega arith) copied in
      let place : at + 24 + length part ≡ at + (24 + length part) = omega arith in
      let run5 = then-bytes (zeros (w - length part)) (w - length part) run4 (length-replicate {A = ℕ} (w - length part) 0) (omega arith) (rw place at padded) in
      run5.holds ∙ (rw same (simp append_assoc))

pub returns : goal.returns
returns c =
    extent-written _ _ _ _ _ _ c.rounded-whole.ensures c.requires.1 _ _ _ _ _ _ c.write_u32.ensures c.write_u64.ensures c.write_u64-2.ensures
    c.write_u32-2.ensures c.copy.ensures c.fill.ensures
