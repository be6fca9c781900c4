-- Where the lists of a sound table lie in the store, and that the lists that are moved stay the same (document 02, request 12). Statements only.
use Rattle.std.specs.Prelude.{ℕ, suc, ◌+◌, ◌-◌, ◌<◌, ◌≤◌, ◌≡◌, true, List, length}
use Rattle.lists.specs.Lists.{skip}
use Rattle.table_columns.specs.Moved.{copied_down}
use Rattle.rules.specs.Contract.{Memory}
use Rattle.rules.specs.Sound.{store_bytes}
use Rattle.table_view.specs.View.{exporter_count, list_start, list_at, sound_memory}

-- the lists of the live exporters lie inside the store, and no two overlap
pub record ListsPlaced (m : Memory) : Type 0 where
  pub inside : (i : ℕ) → i < exporter_count m.words → list_start m.store i + length (list_at m.store i) ≤ store_bytes
  pub apart : (i j : ℕ) → i < j → j < exporter_count m.words → list_start m.store i + length (list_at m.store i) ≤ list_start m.store j

-- soundness says so
abbrev pub SoundPlaced : Type 0
SoundPlaced = (m : Memory) → sound_memory m ≡ true → ListsPlaced m

-- a store of n lists without list k: the bytes of the later lists stand where it began
abbrev pub closed : List ℕ → ℕ → ℕ → List ℕ
closed s k n = copied_down (list_start s (suc k)) (list_start s k) (list_start s n - list_start s (suc k)) s

-- every other list has the bytes that it had
abbrev pub ClosedUp : Type 0
ClosedUp = (s : List ℕ) (k n : ℕ) → k < n → list_start s n ≤ length s → (j : ℕ) → suc j < n → list_at (closed s k n) j ≡ list_at s (skip k j)
