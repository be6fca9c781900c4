-- Laws of rows of words, each once for every kind.
use Rattle.std.proofs.Common.{◌≡◌, ℕ, zero, suc, ◌+◌, ◌-◌, ◌*◌, ◌<◌, ◌≤◌, ◌⊎◌, List, [], ◌∷◌, ◌++◌, map, length, get_or, take, drop, set, sym, ap, ◌∙◌, ⊎_elim, mul-le-mul_right, suc-mul, arith, get_or-set_other, get_or-set_same}
use Rattle.lists.specs.Lists.{tabulate, delete_at}
use Rattle.table_columns.specs.Rows.{cell, row_at, rows, after, RowPut, RowRemoved}
use Rattle.table_columns.specs.declared.rows.Kind.{Kind}
use Rattle.lists.proofs.Tests.{below_or_not}
use Rattle.lists.proofs.Lists.{length-tabulate, get_d_tabulate, tabulate-ext, tabulate-snoc, tabulate-part, map-tabulate, set-tabulate, delete-tabulate}

-- a column ends where a later column starts, or before
pub column-below : (p a b : ℕ) → a < b → a * p + p ≤ b * p
column-below p a b h =
    let m : suc a * p ≤ b * p = mul-le-mul_right p h in
    let s = suc-mul a p in
    omega arith

-- the place of a word is within the kind's columns
pub cell_in : (k : Kind) (j i : ℕ) → j < k.width → i < k.places → cell k j i < after k
cell_in k j i h b = let m = column-below k.places j k.width h in omega arith

-- two words of a kind with one place are one word
pub cell_same : (k : Kind) (j j' i i' : ℕ) → i < k.places → i' < k.places → cell k j i ≡ cell k j' i' → (j ≡ j') × (i ≡ i')
cell_same k j j' i i' h h' e =
    ⊎_elim
    (λ a. let m = column-below k.places j j' a in absurd (omega arith))
    (λ a. ⊎_elim
    (λ b. let m = column-below k.places j' j b in absurd (omega arith))
    (λ b.
    let q : j ≡ j' = omega arith in
    let m = ap (λ (n : ℕ). n * k.places) q in
    (q, omega arith))
    (below_or_not j' j))
    (below_or_not j j')

module _ (k : Kind) where
  -- a row has a word of each column
  pub length-row : (ws : List ℕ) (i : ℕ) → length (row_at k ws i) ≡ k.width
  unfolding row_at
  length-row ws i = length-tabulate k.width _

  -- word j of row i
  pub row_at-get_or : (ws : List ℕ) (i j : ℕ) → j < k.width → get_or (row_at k ws i) j 0 ≡ get_or ws (cell k j i) 0
  unfolding row_at
  row_at-get_or ws i j h = get_d_tabulate k.width _ 0 j h

  -- so many rows as asked for
  pub length-rows : (ws : List ℕ) (n : ℕ) → length (rows k ws n) ≡ n
  unfolding rows
  length-rows ws n = length-tabulate n _

  -- row i of the rows
  pub rows-get_or : (ws : List ℕ) (n i : ℕ) → i < n → get_or (rows k ws n) i [] ≡ row_at k ws i
  unfolding rows
  rows-get_or ws n i h = get_d_tabulate n _ [] i h

  -- rows with the same words
  pub row_same : (ws ws' : List ℕ) (i i' : ℕ) → ((j : ℕ) → j < k.width → get_or ws' (cell k j i') 0 ≡ get_or ws (cell k j i) 0) → row_at k ws' i' ≡ row_at k ws i
  unfolding row_at
  row_same ws ws' i i' h = tabulate-ext k.width _ _ h

  -- the words of free rows change nothing
  pub rows-free : (ws ws' : List ℕ) (n : ℕ) → ((j i : ℕ) → j < k.width → i < n → get_or ws' (cell k j i) 0 ≡ get_or ws (cell k j i) 0) → rows k ws' n ≡ rows k ws n
  unfolding rows
  rows-free ws ws' n h = tabulate-ext n _ _ (λ i b. row_same ws ws' i i (λ j c. h j i c b))

  -- rows are the same where all words of the kind's columns are
  pub rows-within : (ws ws' : List ℕ) (n : ℕ) → n ≤ k.places → ((x : ℕ) → k.base ≤ x → x < after k → get_or ws' x 0 ≡ get_or ws x 0) → rows k ws' n ≡ rows k ws n
  rows-within ws ws' n b h =
      rows-free ws ws' n (λ j i c d. let m = cell_in k j i c (omega arith) in h (cell k j i) (omega arith) (omega arith))

  -- a store outside the kind's columns leaves its rows
  pub rows-outside-set : (ws : List ℕ) (n x v : ℕ) → n ≤ k.places → (x < k.base) ⊎ (after k ≤ x) → rows k (set ws x v) n ≡ rows k ws n
  rows-outside-set ws n x v b o =
      rows-within ws (set ws x v) n b
      (λ y c d. get_or-set_other ws x y v 0 (λ e. ⊎_elim (λ (h : x < k.base). omega arith) (λ (h : after k ≤ x). omega arith) o))

  -- a row that is put after the first n joins them
  pub rows-put : (ws ws' r : List ℕ) (n : ℕ) → RowPut k n r ws ws' → n < k.places → rows k ws' (suc n) ≡ rows k ws n ++ (r ∷ [])
  unfolding rows
  rows-put ws ws' r n p b =
      let front : tabulate n (row_at k ws') ≡ tabulate n (row_at k ws) = tabulate-ext n _ _ (λ i c. p.others i (omega arith) (omega arith)) in
      tabulate-snoc n (row_at k ws') ∙ (λ u. front u ++ (p.put u ∷ []))

  -- a row that is taken out of the first n
  pub rows-removed : (ws ws' : List ℕ) (i n : ℕ) → RowRemoved k n i ws ws' → i < n → rows k ws' (n - 1) ≡ delete_at i (rows k ws n)
  unfolding rows
  rows-removed ws ws' i zero r h = absurd (omega arith)
  rows-removed ws ws' i (suc m) r h =
      let e : suc m - 1 ≡ m = omega arith in
      rw e (tabulate-ext m _ _ (λ j c. r.moved j (omega arith)) ∙ sym (delete-tabulate m i (row_at k ws) (omega arith)))

  -- a store of one word of a row
  module _ (ws : List ℕ) (n i j v : ℕ) (h : i < n) (b : n ≤ k.places) (c : j < k.width) (inside : cell k j i < length ws) where
    -- the row has the new word
    row-stored : row_at k (set ws (cell k j i) v) i ≡ set (row_at k ws i) j v
    unfolding row_at
    row-stored =
        set-tabulate k.width j _ _ c
        (λ x d e. get_or-set_other ws (cell k j i) (cell k x i) v 0 (λ q. e (cell_same k x j i i (omega arith) (omega arith) q).0))
        ∙ ap (set (row_at k ws i) j) (get_or-set_same ws (cell k j i) v 0 inside)

    -- the rows have the new row
    pub rows-set : rows k (set ws (cell k j i) v) n ≡ set (rows k ws n) i (set (row_at k ws i) j v)
    unfolding rows
    rows-set =
        set-tabulate n i (row_at k ws) (row_at k (set ws (cell k j i) v)) h
        (λ x d e.
        row_same ws (set ws (cell k j i) v) x x
        (λ y f. get_or-set_other ws (cell k j i) (cell k y x) v 0 (λ q. e (cell_same k y j x i (omega arith) (omega arith) q).1)))
        ∙ ap (set (rows k ws n) i) row-stored

  -- a column of the first n rows is a part of the words
  pub column-of-rows : (ws : List ℕ) (n j : ℕ) → j < k.width → n ≤ k.places → after k ≤ length ws
      → map (λ r. get_or r j 0) (rows k ws n) ≡ take n (drop (k.base + j * k.places) ws)
  unfolding rows
  column-of-rows ws n j h b f =
      let m = column-below k.places j k.width h in
      map-tabulate (λ r. get_or r j 0) n (row_at k ws)
      ∙ tabulate-ext n _ _ (λ i c. row_at-get_or ws i j h)
      ∙ sym (tabulate-part ws 0 (k.base + j * k.places) n (omega arith))
