-- The columns that hold the halves of GUIDs.
use Rattle.std.specs.Prelude.{ℕ, List, length, slice_index}
use Rattle.kinds.specs.declared.Guid.{Guid}
use Rattle.lists.specs.Lists.{tabulate}

-- the GUID whose halves stand at i of two columns
abbrev pub guid_at : List ℕ → List ℕ → ℕ → Guid
guid_at lows highs i = record { low = slice_index lows i; high = slice_index highs i }

-- the GUIDs whose halves stand in two columns
unfoldable pub guids : List ℕ → List ℕ → List Guid
guids lows highs = tabulate (length lows) (guid_at lows highs)
