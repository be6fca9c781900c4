-- What is promised of identifiers and of the index of a column: a row for each bucket, counted from 1, or 0.
use Rattle.std.specs.Prelude.{ℕ, ◌-◌, ◌%◌, ◌<◌, ◌≤◌, ◌≡◌, Bool, true, false, not, ◌&&◌, ◌||◌, List, [], ◌∷◌, ◌++◌, length, get_or, drop, eqb, ltb}
use Rattle.kinds.specs.declared.Guid.{Guid}
use Rattle.lists.specs.Lists.{every, nonzero, distinct}
use Rattle.lists.specs.Guids.{nil, same_guid}
use Rattle.table_columns.specs.Buckets.{guid_bucket, low_bucket, word_bucket}
use Rattle.table_columns.specs.Guids.{guid_at, guids}

-- each number is above the one before it, and the first above a
unfoldable pub climbing : ℕ → List ℕ → Bool
climbing a [] = true
climbing a (x ∷ xs) = ltb a x && climbing x xs

-- an identifier is noted, by the numbers of its two buckets and where it stands
unfoldable pub noted : ℕ → ℕ → (ℕ → Bool) → Bool
noted first second here = not (eqb first 0) && (not (eqb second 0) || here (first - 1))

-- bucket k has a number; the numbers that were there stay
pub record Filled (rows : List ℕ) (k : ℕ) (rows' : List ℕ) : Type 0 where
  pub size : length rows' ≡ length rows
  pub stays : (j : ℕ) → eqb (get_or rows j 0) 0 ≡ false → get_or rows' j 0 ≡ get_or rows j 0
  pub taken : eqb (get_or rows' k 0) 0 ≡ false

-- a number is entered under bucket b or, where that is taken, under k; the numbers that were there stay
pub record Put (rows : List ℕ) (b k number : ℕ) (rows' : List ℕ) : Type 0 where
  pub size : length rows' ≡ length rows
  pub stays : (j : ℕ) → eqb (get_or rows j 0) 0 ≡ false → get_or rows' j 0 ≡ get_or rows j 0
  pub first : eqb (get_or rows' b 0) 0 ≡ false
  pub second : eqb (get_or rows' k 0) 0 ≡ true → (get_or rows' b 0 ≡ number) × (number < 255)

-- the bucket of each word of a column has a row
pub record IndexedWords (rows col : List ℕ) : Type 0 where
  pub room : 0 < length rows
  pub each : every (λ x. not (eqb (get_or rows (word_bucket x % length rows) 0) 0)) col ≡ true

-- r: the words of a column are proper; then the rows are an index of it
pub record Noted (col rows : List ℕ) (r : Bool) : Type 0 where
  pub judged : r ≡ (nonzero col && distinct eqb col)
  pub indexed : r ≡ true → IndexedWords rows col

-- x stands in row r of a column
abbrev pub StandsAt : ℕ → List ℕ → ℕ → Type 0
StandsAt x col r = (r < length col) × (get_or col r 0 ≡ x)

-- the number of a row, counted from 1, where it is one of the first rows; else 255
pub record NumberOf (next most r : ℕ) : Type 0 where
  pub some : 0 < r
  pub row : r < 255 → (r ≡ next) × (next ≤ most)

-- a GUID is noted; the numbers lead to two columns
abbrev pub guid_noted : List ℕ → List ℕ → List ℕ → Guid → Bool
guid_noted rows lows highs g = noted (get_or rows (guid_bucket g) 0) (get_or rows (low_bucket g) 0) (λ i. same_guid g (guid_at lows highs i))

-- the GUIDs of two columns from an index on are noted, and no two the same; before it they are those of two others
pub record Entering (rows lows highs lows2 highs2 : List ℕ) (from : ℕ) : Type 0 where
  pub size : length rows ≡ 4096
  pub alike : (i : ℕ) → i < from → guid_at lows highs i ≡ guid_at lows2 highs2 i
  pub each : every (guid_noted rows lows2 highs2) (drop from (guids lows2 highs2)) ≡ true
  pub differ : distinct same_guid (drop from (guids lows2 highs2)) ≡ true

-- r: the GUIDs of two columns are proper before them; then all are noted
pub record Entered (lows highs lows2 highs2 : List ℕ) (from : ℕ) (rows : List ℕ) (r : Bool) : Type 0 where
  pub size : length rows ≡ 4096
  pub judged : r ≡ (every (λ g. not (same_guid g nil)) (guids lows highs) && distinct same_guid (guids lows highs ++ drop from (guids lows2 highs2)))
  pub each : r ≡ true → every (guid_noted rows lows2 highs2) (guids lows highs ++ drop from (guids lows2 highs2)) ≡ true
