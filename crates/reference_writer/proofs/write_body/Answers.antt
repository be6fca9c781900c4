-- `write_body`: a run of writes for each form.
use Prim.Native.Nat.{ℕ, ◌≤◌}
use mathlib.Core.Path.{◌≡◌, sym}
use mathlib.Core.List.{List}
use native.Mathlib.Omega.{arith}
use lib.ListN.{length}
use Rattle.fields.specs.Fields.{written, encode, guid_bytes}
use Rattle.fields.proofs.Fields.{first-bytes, first-guid, then-field, then-guid, written_none}
use Rattle.references.specs.References.{extended_signature, fixed_size}
use Rattle.references.specs.declared.Reference.{Reference}
use Rattle.reference_writer.specs.Writing.{block_bytes, body_bytes}
use Rattle.references.proofs.Forms.{by-other}
use Rattle.reference_writer.proofs.Writable.{length-block}
use Rattle.reference_writer.proofs.write_body.Goals as goal

module _ (r : Reference) (b : List ℕ) (room : fixed_size r.flags ≤ length b) where
  standard-room : r.flags ≡ 1 → 64 ≤ length b
  unfolding fixed_size
  standard-room h = rw h at room

  handler-room : r.flags ≡ 2 → 64 ≤ length b
  unfolding fixed_size
  handler-room h = let w : 80 ≤ length b = rw h at room in omega arith

  extended-room : r.flags ≡ 8 → 64 ≤ length b
  unfolding fixed_size
  extended-room h = let w : 68 ≤ length b = rw h at room in omega arith

  module _ (b₁ : List ℕ) (block : b₁ ≡ written b 24 (block_bytes r.block)) where
    as-standard : r.flags ≡ 1 → b₁ ≡ written b 24 (body_bytes r)
    unfolding body_bytes
    as-standard h = rw h block

    as-handler : r.flags ≡ 2 → (b₂ : List ℕ) → b₂ ≡ written b₁ 64 (guid_bytes r.clsid) → b₂ ≡ written b 24 (body_bytes r)
    unfolding fixed_size body_bytes
    as-handler h b₂ clsid =
        let w : 80 ≤ length b = rw h at room in
        rw h (then-guid r.clsid (first-bytes (block_bytes r.block) 40 (length-block r.block) block) (omega arith) clsid).holds

    as-extended : r.flags ≡ 8 → (b₂ : List ℕ) → b₂ ≡ written b₁ 64 (encode 4 extended_signature) → b₂ ≡ written b 24 (body_bytes r)
    unfolding fixed_size body_bytes
    as-extended h b₂ mark =
        let w : 68 ≤ length b = rw h at room in
        rw h (then-field 4 extended_signature (first-bytes (block_bytes r.block) 40 (length-block r.block) block) (omega arith) mark).holds

  as-custom : r.flags ≡ 4 → (b₁ b₂ b₃ : List ℕ) → b₁ ≡ written b 24 (guid_bytes r.clsid) → b₂ ≡ written b₁ 40 (encode 4 r.extension)
      → b₃ ≡ written b₂ 44 (encode 4 r.size) → b₃ ≡ written b 24 (body_bytes r)
  unfolding fixed_size body_bytes
  as-custom h b₁ b₂ b₃ clsid extension size =
      let w : 48 ≤ length b = rw h at room in
      rw h (then-field 4 r.size (then-field 4 r.extension (first-guid r.clsid clsid) (omega arith) extension) (omega arith) size).holds

no-form : (r : Reference) (b : List ℕ) → (r.flags ≡ 1 → ⊥) → (r.flags ≡ 2 → ⊥) → (r.flags ≡ 4 → ⊥) → (r.flags ≡ 8 → ⊥) → b ≡ written b 24 (body_bytes r)
unfolding body_bytes
no-form r b h i j k = sym (rw (by-other r.flags _ _ _ _ _ h i j k) (written_none _ 24))

pub write_block-requires : goal.write_block-requires
write_block-requires c = search standard-room

pub write_block-requires-then-f-eq-HANDLER : goal.write_block-requires-then-f-eq-HANDLER
write_block-requires-then-f-eq-HANDLER c = search handler-room

pub write_block-requires-then-f-eq-EXTENDED : goal.write_block-requires-then-f-eq-EXTENDED
write_block-requires-then-f-eq-EXTENDED c = search extended-room

pub returns-then-f-eq-STANDARD : goal.returns-then-f-eq-STANDARD
returns-then-f-eq-STANDARD c = search as-standard

pub returns-then-f-eq-HANDLER : goal.returns-then-f-eq-HANDLER
returns-then-f-eq-HANDLER c = search as-handler

pub returns-then-f-eq-CUSTOM : goal.returns-then-f-eq-CUSTOM
returns-then-f-eq-CUSTOM c = search as-custom

pub returns-then-f-eq-EXTENDED : goal.returns-then-f-eq-EXTENDED
returns-then-f-eq-EXTENDED c = search as-extended

pub returns-else-f-eq-EXTENDED : goal.returns-else-f-eq-EXTENDED
returns-else-f-eq-EXTENDED c = search no-form
