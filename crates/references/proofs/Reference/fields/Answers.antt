-- `Reference::fields`: a case for each form.
use Prim.Native.Nat.{ℕ, ◌+◌}
use mathlib.Core.Path.{◌≡◌, sym, ◌∙◌}
use mathlib.Core.List.{List}
use Rattle.kinds.specs.declared.Guid.{Guid}
use Rattle.fields.specs.Fields.{field, guid_at}
use Rattle.references.specs.References.{list_end, block_at, no_reference, standard, handler, custom, extended, reference_at}
use Rattle.references.specs.declared.Block.{Block}
use Rattle.references.specs.declared.Reference.{Reference}
use Rattle.references.proofs.Forms.{by-other}
use Rattle.references.proofs.Reference.fields.Goals as goal

module _ (s : List ℕ) (f : ℕ) (flags : f ≡ field s 4 4) (i : Guid) (iid : i ≡ guid_at s 8) (r : Reference) where
  as-custom : f ≡ 4 → (g : Guid) → g ≡ guid_at s 24 → (x y : ℕ) → x ≡ field s 40 4 → y ≡ field s 44 4 → r ≡ custom i g x y → r ≡ reference_at s
  unfolding reference_at
  as-custom h g clsid x y size reserved e = rw (← flags, h, e, iid, clsid, size, reserved)

  other : (f ≡ 1 → ⊥) → (f ≡ 2 → ⊥) → (f ≡ 4 → ⊥) → (f ≡ 8 → ⊥) → r ≡ no_reference → r ≡ reference_at s
  unfolding reference_at
  other a b c d e = rw (← flags) (e ∙ sym (by-other _ _ _ _ _ _ a b c d))

  module _ (b : Block) (block : b ≡ block_at s 24) where
    as-standard : f ≡ 1 → r ≡ standard i b → r ≡ reference_at s
    unfolding reference_at
    as-standard h e = rw (← flags, h, e, iid, block)

    as-handler : f ≡ 2 → (g : Guid) → g ≡ guid_at s 64 → r ≡ handler i b g → r ≡ reference_at s
    unfolding reference_at
    as-handler h g clsid e = rw (← flags, h, e, iid, block, clsid)

    as-extended : f ≡ 8 → (n : ℕ) → n ≡ list_end s → (g : Guid) → g ≡ guid_at s (n + 8) → r ≡ extended i b g → r ≡ reference_at s
    unfolding reference_at
    as-extended h n end g id e = rw (← flags, h, e, iid, block, id, end)

pub returns-then-f-eq-STANDARD : goal.returns-then-f-eq-STANDARD
returns-then-f-eq-STANDARD c = search as-standard

pub returns-then-f-eq-HANDLER : goal.returns-then-f-eq-HANDLER
returns-then-f-eq-HANDLER c = search as-handler

pub returns-then-f-eq-CUSTOM : goal.returns-then-f-eq-CUSTOM
returns-then-f-eq-CUSTOM c = search as-custom

pub returns-then-f-eq-EXTENDED : goal.returns-then-f-eq-EXTENDED
returns-then-f-eq-EXTENDED c = search as-extended

pub returns : goal.returns
returns c = search other
