-- `Context::write_head`: its fields are a run of writes.
use Prim.Native.Nat.{ℕ, ◌≤◌}
use mathlib.Core.Path.{◌≡◌}
use mathlib.Core.List.{List}
use native.Mathlib.Omega.{arith}
use lib.ListN.{length}
use Rattle.fields.specs.Fields.{written, encode, guid_bytes}
use Rattle.fields.proofs.Fields.{first_field, then-field, then-guid, length-written}
use Rattle.contexts.specs.Contexts.{head_bytes}
use Rattle.contexts.specs.declared.Context.{Context}
use Rattle.contexts.proofs.Context.write_head.Goals as goal

-- the writes in a row
module _ (x : Context) (b : List ℕ) (room : 48 ≤ length b) (b₁ b₂ b₃ b₄ b₅ b₆ b₇ b₈ b₉ b₁₀ : List ℕ) where
  head-written : b₁ ≡ written b 0 (encode 2 1) → b₂ ≡ written b₁ 2 (encode 2 1) → b₃ ≡ written b₂ 4 (guid_bytes x.id) → b₄ ≡ written b₃ 20 (encode 4 2)
      → b₅ ≡ written b₄ 24 (encode 4 x.reserved) → b₆ ≡ written b₅ 28 (encode 4 0) → b₇ ≡ written b₆ 32 (encode 4 0) → b₈ ≡ written b₇ 36 (encode 4 x.marshal)
      → b₉ ≡ written b₈ 40 (encode 4 x.count) → b₁₀ ≡ written b₉ 44 (encode 4 x.frozen) → b₁₀ ≡ written b 0 (head_bytes x)
  unfolding head_bytes
  head-written major minor id flags reserved extents rest marshal count frozen =
      let run = then-field 2 1 (first_field 2 1 major) (omega arith) minor in
      let run2 = then-guid x.id run (omega arith) id in
      let run3 = then-field 4 2 run2 (omega arith) flags in
      let run4 = then-field 4 x.reserved run3 (omega arith) reserved in
      let run5 = then-field 4 0 run4 (omega arith) extents in
      let run6 = then-field 4 0 run5 (omega arith) rest in
      let run7 = then-field 4 x.marshal run6 (omega arith) marshal in
      let run8 = then-field 4 x.count run7 (omega arith) count in
      (then-field 4 x.frozen run8 (omega arith) frozen).holds

pub returns : goal.returns
returns c =
    head-written _ _ c.requires _ _ _ _ _ _ _ _ _ _ c.write_u16.ensures c.write_u16-2.ensures c.write_guid.ensures c.write_u32.ensures
    c.write_u32-2.ensures c.write_u32-3.ensures c.write_u32-4.ensures c.write_u32-5.ensures c.write_u32-6.ensures
    c.write_u32-7.ensures

pub shape_of-buf : goal.shape_of-buf
shape_of-buf c = rw (returns c) (length-written _ _ _)
