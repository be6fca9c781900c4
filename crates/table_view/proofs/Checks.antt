-- Laws of the checks of live rows: what a clause says of all entries of a kind, by the index of the row.
use Prim.Native.Nat.{ℕ, ◌+◌, ◌<◌, ◌≤◌}
use mathlib.Core.Path.{◌≡◌, refl, sym, ap, ◌∙◌}
use mathlib.Core.Bool.{Bool, true, false, not}
use mathlib.Core.List.{List, map}
use borrow.Author.Tests.{not-true, not-false}
use lib.ListN.{length, get_or, drop}
use Rattle.lists.specs.Lists.{every, tabulate}
use Rattle.table_columns.specs.Rows.{row_at, rows}
use Rattle.table_columns.specs.declared.rows.Kind.{Kind}
use Rattle.lists.proofs.Lists.{every_map, map-tabulate, tabulate-ext, tabulate-get_or}
use Rattle.table_columns.proofs.Loops.{table_step, table-end, every-passes, every-fails, every-end}

-- every index below n passes
abbrev pub every_row : ℕ → (ℕ → Bool) → Bool
every_row n q = every q (tabulate n (λ i. i))

-- every index from i on and below n passes
abbrev pub every_from : ℕ → ℕ → (ℕ → Bool) → Bool
every_from i n q = every q (drop i (tabulate n (λ j. j)))

-- a loop that checks the rows from i on
module _ {w : Bool} (n : ℕ) (q : ℕ → Bool) (i : ℕ) (h : w ≡ every_from i n q) where
  -- row i passes by the outcome t
  pub check-passes : {t : Bool} → i < n → t ≡ q i → not t ≡ false → w ≡ every_from (i + 1) n q
  check-passes {t} b e f = every-passes (table_step n (λ j. j) i b) q h (sym e ∙ not-false t f)

  -- row i fails by the outcome t
  pub check-fails : {t : Bool} → i < n → t ≡ q i → not t ≡ true → false ≡ w
  check-fails {t} b e f = every-fails (table_step n (λ j. j) i b) q h (sym e ∙ not-true t f)

  -- no row is left
  pub checks-done : n ≤ i → true ≡ w
  checks-done b = every-end (table-end n (λ j. j) i b) q h

module _ {A : Type 0} (p : A → Bool) (q : ℕ → Bool) where
  -- a check of each index of a table is a check of its elements
  pub table-checked : (f : ℕ → A) (n m : ℕ) → n ≡ m → ((i : ℕ) → i < m → q i ≡ p (f i)) → every_row n q ≡ every p (tabulate m f)
  table-checked f n m e same =
      rw e
      (sym (every_map (λ (b : Bool). b) q (tabulate m (λ i. i)))
      ∙ ap (every (λ (b : Bool). b)) (map-tabulate q m (λ i. i) ∙ tabulate-ext m _ _ same ∙ sym (map-tabulate p m f))
      ∙ every_map (λ (b : Bool). b) p (tabulate m f))

  -- a check of each row is a check of the entries that are made of the rows
  pub rows-checked : (k : Kind) (ws : List ℕ) (entry : List ℕ → A) (n m : ℕ) → n ≡ m → ((i : ℕ) → q i ≡ p (entry (row_at k ws i))) → every_row n q ≡ every p (map entry (rows k ws m))
  unfolding rows
  rows-checked k ws entry n m e same =
      table-checked (λ i. entry (row_at k ws i)) n m e (λ i l. same i) ∙ ap (every p) (sym (map-tabulate entry m (row_at k ws)))

-- a check of each row is a check of the entries
pub entries-checked : {A : Type 0} (p : A → Bool) (d : A) (n : ℕ) (xs : List A) → n ≡ length xs → every_row n (λ i. p (get_or xs i d)) ≡ every p xs
entries-checked p d n xs e = table-checked p (λ i. p (get_or xs i d)) (λ i. get_or xs i d) n (length xs) e (λ i l. refl) ∙ ap (every p) (tabulate-get_or xs d)
