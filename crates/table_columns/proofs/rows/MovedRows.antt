-- What the loops over the columns of a kind keep.
use Rattle.std.proofs.Common.{◌≡◌, ℕ, suc, ◌+◌, ◌-◌, ◌*◌, ◌<◌, ◌≤◌, ◌⊎◌, List, ◌++◌, length, get_or, take, drop, set, sym}
use Rattle.std.proofs.Common.{ap, ◌∙◌, inl, inr, ⊎_elim, suc-mul, add-one, arith}
use Rattle.std.proofs.Common.{length-drop, length-set, length-take-le, get_or-drop, get_or-set_other, get_or-take, get_or-set_same, get_or-append-add, ext_get_or}
use borrow.Rule.Slice.PartMut.{put_mid, same_len_mid}
use lib.ListN.{get_or-append}
use Rattle.lists.specs.Lists.{skip}
use Rattle.table_columns.specs.Moved.{removed_at}
use Rattle.table_columns.specs.Rows.{cell, after, RowPut, RowRemoved}
use Rattle.table_columns.specs.declared.rows.Kind.{Kind}
use Rattle.lists.proofs.Tests.{same_or_not}
use Rattle.lists.proofs.Lists.{skip-lt}
use Rattle.table_columns.proofs.Moves.{length_removed, get_or-removed}
use Rattle.table_columns.proofs.rows.Laws.{column-below, cell_in, cell_same, length-row, row_at-get_or, row_same}

-- where the next column starts
pub next-column : (k : Kind) (j at : ℕ) → at ≡ k.base + j * k.places → at + k.places ≡ k.base + (j + 1) * k.places
next-column k j at e = let s = suc-mul j k.places in rw (add-one j) (omega arith)

-- column j is within the words
pub column-in : (k : Kind) (j at : ℕ) → at ≡ k.base + j * k.places → j < k.width → at + k.places ≤ after k
column-in k j at e h = let m = column-below k.places j k.width h in omega arith

-- ---- a row is written

-- the words of row i below column j are those of row, and the others are as they were
pub record PutTo (k : Kind) (i : ℕ) (row ws₀ ws : List ℕ) (j : ℕ) : Type 0 where
  pub size : length ws ≡ length ws₀
  pub put : (c : ℕ) → c < j → get_or ws (cell k c i) 0 ≡ get_or row c 0
  pub kept : (x : ℕ) → ((c : ℕ) → c < j → x ≡ cell k c i → ⊥) → get_or ws x 0 ≡ get_or ws₀ x 0

module _ (k : Kind) (i : ℕ) (row ws₀ : List ℕ) (b : i < k.places) where
  -- one more word is written
  pub put_one : (ws : List ℕ) (j at : ℕ) → PutTo k i row ws₀ ws j → at ≡ k.base + j * k.places → at + i < length ws
      → PutTo k i row ws₀ (set ws (at + i) (get_or row j 0)) (j + 1)
  put_one ws j at p e h =
      record {
        size = length-set ws (at + i) (get_or row j 0) ∙ p.size;
        put = λ c d.
            ⊎_elim
            (λ (q : c ≡ j).
            let n : cell k c i ≡ at + i = let m = ap (λ (n : ℕ). n * k.places) q in omega arith in
            ap (λ (x : ℕ). get_or (set ws (at + i) (get_or row j 0)) x 0) n ∙ get_or-set_same ws (at + i) (get_or row j 0) 0 h
            ∙ ap (λ (x : ℕ). get_or row x 0) (sym q))
            (λ (q : c ≡ j → ⊥).
            get_or-set_other ws (at + i) (cell k c i) (get_or row j 0) 0 (λ z. q (cell_same k c j i i b b (let w : cell k c i ≡ cell k j i = omega arith in w)).0)
            ∙ p.put c (omega arith))
            (same_or_not c j);
        kept = λ x d.
            get_or-set_other ws (at + i) x (get_or row j 0) 0 (λ z. d j (omega arith) (omega arith))
            ∙ p.kept x (λ c f. d c (omega arith));
      }

  -- all words of the row are written
  pub put_all : (ws : List ℕ) → length row ≡ k.width → PutTo k i row ws₀ ws k.width → RowPut k i row ws₀ ws
  put_all ws l p =
      record {
        size = p.size;
        put = let m = length-row k ws i in
            ext_get_or 0 _ _ (m ∙ sym l) (λ j c. let w : j < k.width = omega arith in row_at-get_or k ws i j w ∙ p.put j w);
        others = λ j c d. row_same k ws₀ ws j j (λ y f. p.kept (cell k y j) (λ z g e. d (cell_same k y z j i c b e).1));
        outside = λ x o. p.kept x
            (λ c f e.
            let m = cell_in k c i f b in
            ⊎_elim (λ (h : x < k.base). omega arith) (λ (h : after k ≤ x). omega arith) o);
      }

-- ---- a part that was lent

-- the words after the part ys is back at a
module _ (a n : ℕ) (xs ys : List ℕ) (l : length ys ≡ n) (f : a + n ≤ length xs) where
  -- what stands before the part
  front : length (take a xs) ≡ a
  front = length-take-le a xs (omega arith)

  -- a word before the part
  pub part-before : (x : ℕ) → x < a → get_or (put_mid a n xs ys) x 0 ≡ get_or xs x 0
  part-before x h = let t = front in get_or-append (take a xs) _ 0 x (omega arith) ∙ get_or-take a xs x 0 h

  -- a word from the part on
  past : (x : ℕ) → get_or (put_mid a n xs ys) (a + x) 0 ≡ get_or (ys ++ drop n (drop a xs)) x 0
  past x = ap (λ (m : ℕ). get_or (put_mid a n xs ys) (m + x) 0) (sym front) ∙ get_or-append-add (take a xs) (ys ++ drop n (drop a xs)) x 0

  -- a word of the part
  pub part-inside : (x : ℕ) → x < n → get_or (put_mid a n xs ys) (a + x) 0 ≡ get_or ys x 0
  part-inside x h = past x ∙ get_or-append ys _ 0 x (omega arith)

  -- a word after the part
  pub part-after : (x : ℕ) → a + n ≤ x → get_or (put_mid a n xs ys) x 0 ≡ get_or xs x 0
  part-after x h =
      let z = x - (a + n) in
      let e : x ≡ a + (length ys + z) = omega arith in
      let e' : a + (n + z) ≡ x = omega arith in
      ap (λ (m : ℕ). get_or (put_mid a n xs ys) m 0) e ∙ past (length ys + z) ∙ get_or-append-add ys (drop n (drop a xs)) z 0
      ∙ get_or-drop n (drop a xs) z 0 ∙ get_or-drop a xs (n + z) 0 ∙ ap (λ (m : ℕ). get_or xs m 0) e'

-- ---- a row is taken out

-- row i of the first n is taken out of the columns below j, and the others are as they were
pub record RemovedTo (k : Kind) (n i : ℕ) (ws₀ ws : List ℕ) (j : ℕ) : Type 0 where
  pub size : length ws ≡ length ws₀
  pub moved : (c y : ℕ) → c < j → suc y < n → get_or ws (cell k c y) 0 ≡ get_or ws₀ (cell k c (skip i y)) 0
  pub kept : (x : ℕ) → (x < k.base) ⊎ (k.base + j * k.places ≤ x) → get_or ws x 0 ≡ get_or ws₀ x 0

module _ (k : Kind) (n i : ℕ) (ws₀ : List ℕ) (b : n ≤ k.places) where
  module _ (ws ys : List ℕ) (j at : ℕ) (p : RemovedTo k n i ws₀ ws j) (e : at ≡ k.base + j * k.places) (f : at + n ≤ length ws)
      (r : ys ≡ removed_at i (take n (drop at ws))) where
    -- there are n words
    part_length : length (take n (drop at ws)) ≡ n
    part_length = let d = length-drop at ws in length-take-le n (drop at ws) (omega arith)

    -- and so afterwards
    ys-length : length ys ≡ n
    ys-length = ap length r ∙ length_removed i (take n (drop at ws)) ∙ part_length

    -- those from i on have moved down
    ys-moved : (y : ℕ) → suc y < n → get_or ys y 0 ≡ get_or ws (at + skip i y) 0
    ys-moved y h =
        let l = part_length in
        ap (λ (z : List ℕ). get_or z y 0) r ∙ get_or-removed i (take n (drop at ws)) y (omega arith)
        ∙ get_or-take n (drop at ws) (skip i y) 0 (skip-lt i y n h) ∙ get_or-drop at ws (skip i y) 0

    -- one more column is changed
    pub removed-one : RemovedTo k n i ws₀ (put_mid at n ws ys) (j + 1)
    removed-one =
        let l = ys-length in
        record {
          size = same_len_mid at n ws ys (l ∙ sym part_length) ∙ p.size;
          moved = λ c y d g.
              ⊎_elim
              (λ (q : c ≡ j).
              let m = ap (λ (n : ℕ). n * k.places) q in
              let e₁ : cell k c y ≡ at + y = omega arith in
              let e₂ : at + skip i y ≡ cell k c (skip i y) = omega arith in
              ap (λ (x : ℕ). get_or (put_mid at n ws ys) x 0) e₁ ∙ part-inside at n ws ys l f y (omega arith) ∙ ys-moved y (omega arith)
              ∙ p.kept (at + skip i y) (inr (omega arith)) ∙ ap (λ (x : ℕ). get_or ws₀ x 0) e₂)
              (λ (q : c ≡ j → ⊥).
              let m = column-below k.places c j (omega arith) in
              part-before at n ws ys l f (cell k c y) (omega arith) ∙ p.moved c y (omega arith) g)
              (same_or_not c j);
          kept = λ x o.
              let s = next-column k j at e in
              ⊎_elim
              (λ (h : x < k.base). part-before at n ws ys l f x (omega arith) ∙ p.kept x (inl h))
              (λ (h : k.base + (j + 1) * k.places ≤ x). part-after at n ws ys l f x (omega arith) ∙ p.kept x (inr (omega arith)))
              o;
        }

  -- all columns are changed
  pub removed-all : (ws : List ℕ) → RemovedTo k n i ws₀ ws k.width → RowRemoved k n i ws₀ ws
  removed-all ws p =
      record {
        size = p.size;
        moved = λ j c. row_same k ws₀ ws (skip i j) j (λ y f. p.moved y j f c);
        outside = p.kept;
      }
