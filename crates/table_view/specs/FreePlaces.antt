-- Free places decide nothing: the live entries are made of words 0 and 1, the numbers of live rows, the words of the live rows and
-- the bytes of the live lists.
use Rattle.std.specs.Prelude.{ℕ, ◌<◌, ◌≡◌, List, length, get_or}
use Rattle.table_columns.specs.Rows.{cell}
use Rattle.table_columns.specs.declared.rows.Kind.{Kind}
use Rattle.table_words.specs.Kinds.{exporter_kind, object_kind, interface_kind, set_kind}
use Rattle.table_view.specs.View.{exporter_count, object_count, interface_count, set_count, list_start, memory, view, sound_memory}

-- the words of the first n rows of a kind are the same
abbrev pub SameRows : Kind → ℕ → List ℕ → List ℕ → Type 0
SameRows k n ws ws' = (j i : ℕ) → j < k.width → i < n → get_or ws' (cell k j i) 0 ≡ get_or ws (cell k j i) 0

-- two tables that agree on every live place
pub record SameLive (ws store ws' store' : List ℕ) : Type 0 where
  pub clock : get_or ws' 0 0 ≡ get_or ws 0 0
  pub next : get_or ws' 1 0 ≡ get_or ws 1 0
  pub exporter_counts : exporter_count ws' ≡ exporter_count ws
  pub object_counts : object_count ws' ≡ object_count ws
  pub interface_counts : interface_count ws' ≡ interface_count ws
  pub set_counts : set_count ws' ≡ set_count ws
  pub exporters : SameRows exporter_kind (exporter_count ws) ws ws'
  pub objects : SameRows object_kind (object_count ws) ws ws'
  pub interfaces : SameRows interface_kind (interface_count ws) ws ws'
  pub sets : SameRows set_kind (set_count ws) ws ws'
  pub store_lengths : length store' ≡ length store
  -- the bytes up to the end of the last live list
  pub lists : (x : ℕ) → x < list_start store (exporter_count ws) → get_or store' x 0 ≡ get_or store x 0

-- then the live entries are the same, whatever any other word or byte holds
abbrev pub FreePlaces : Type 0
FreePlaces = (ws store ws' store' : List ℕ) → SameLive ws store ws' store' → view (memory ws' store') ≡ view (memory ws store)

-- and so is the judgement
abbrev pub FreePlacesSound : Type 0
FreePlacesSound =
    (ws store ws' store' : List ℕ) → SameLive ws store ws' store' → length ws' ≡ length ws → sound_memory (memory ws' store') ≡ sound_memory (memory ws store)
