-- Rows of words. A kind of rows has columns of so many words as it has places, one after the other; row i has a word of each column.
use Rattle.std.specs.Prelude.{◌≡◌, ℕ, suc, ◌+◌, ◌*◌, ◌<◌, ◌≤◌, ◌⊎◌, List, length, ◌≢◌, slice_index}
use Rattle.lists.specs.Lists.{tabulate, skip}
use Rattle.table_columns.specs.declared.rows.Kind.{Kind}

-- the place of word j of row i
abbrev pub cell : Kind → ℕ → ℕ → ℕ
cell k j i = k.base + j * k.places + i

unfoldable pub row_at : Kind → List ℕ → ℕ → List ℕ
row_at k ws i = tabulate k.width (λ j. slice_index ws (cell k j i))

-- the first n rows
unfoldable pub rows : Kind → List ℕ → ℕ → List (List ℕ)
rows k ws n = tabulate n (row_at k ws)

-- the first word after the kind's columns
abbrev pub after : Kind → ℕ
after k = k.base + k.width * k.places

-- the words outside the kind's columns are the same
abbrev pub Outside : Kind → List ℕ → List ℕ → Type 0
Outside k ws ws' = (x : ℕ) → (x < k.base) ⊎ (after k ≤ x) → slice_index ws' x ≡ slice_index ws x

-- row i is r, and nothing else changed
pub record RowPut (k : Kind) (i : ℕ) (r ws ws' : List ℕ) : Type 0 where
  pub size : length ws' ≡ length ws
  pub put : row_at k ws' i ≡ r
  pub others : (j : ℕ) → j < k.places → (j ≢ i) → row_at k ws' j ≡ row_at k ws j
  pub outside : Outside k ws ws'

-- row i of the first n is taken out and the later ones of them move down
pub record RowRemoved (k : Kind) (n i : ℕ) (ws ws' : List ℕ) : Type 0 where
  pub size : length ws' ≡ length ws
  pub moved : (j : ℕ) → suc j < n → row_at k ws' j ≡ row_at k ws (skip i j)
  pub outside : Outside k ws ws'
