-- The live entries of every lent table fit a snapshot. A statement only.
use Rattle.std.specs.Prelude.{◌≡◌, true}
use Rattle.fields.specs.Fields.{Bytes}
use Rattle.rules.specs.Contract.{Memory, Whole}
use Rattle.rules.specs.Swapping.{Fits}
use Rattle.table_view.specs.View.{view}
use Rattle.table_view.specs.Sizes.{words_fit}

-- 8,192 words of 64 bits and 8,192 bytes, as what is lent has where the lengths are right
pub record Lent (m : Memory) : Type 0 where
  pub words : Whole m.words
  pub store : Whole m.store
  pub words_fit : words_fit m ≡ true
  pub bytes : Bytes m.store

abbrev pub ViewFits : Type 0
ViewFits = (m : Memory) → Lent m → Fits (view m)
