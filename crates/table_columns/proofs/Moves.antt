-- Elements that move down: what is then where.
use Rattle.std.proofs.Common.{◌≡◌, ℕ, suc, ◌+◌, ◌-◌, ◌<◌, ◌≤◌, ltb, leb, List, [], ◌∷◌, ◌++◌, length, get_or, take, drop}
use Rattle.std.proofs.Common.{sym, refl, ap, ◌∙◌, append_assoc, add-one, arith, length-append, length-drop, length-take-le, take_all, take_at, drop_at, ltb-false, ltb-true, lt-ltb, le-leb}
use mathlib.Core.Bool.{and-false}
use borrow.Author.Tests.{lt-leb}
use lib.ListN.{get_or-append}
use lib.Seq.{paste}
use Rattle.kinds.proofs.Refusing.{by-test}
use Rattle.lists.specs.Lists.{delete_at, skip}
use Rattle.table_columns.specs.Moved.{removed_at, copied_down}
use Rattle.lists.proofs.Lists.{delete-split, length-delete, get_or-delete, skip_below}
use Rattle.table_columns.proofs.Loops.{column-step, column-end}

-- ---- bytes that are copied

-- the places are in order, and the bytes are all there
module _ (s : List ℕ) (from to n : ℕ) (h : to ≤ from) (g : from + n ≤ length s) where
  -- the source has n bytes
  room : n ≤ length (drop from s)
  room = simp length-drop (omega arith)

  -- there are so many bytes before the target
  head : length (take to s) ≡ to
  head = length-take-le to s (omega arith)

  -- before the target, the source, after the target
  pub copied_is : copied_down from to n s ≡ take to s ++ (take n (drop from s) ++ drop (to + n) s)
  unfolding copied_down
  copied_is = rw (le-leb to from h, le-leb (from + n) (length s) g)

  -- what stands before the target stays
  pub copied-before : take to (copied_down from to n s) ≡ take to s
  copied-before = rw copied_is (take_at (take to s) (take n (drop from s) ++ drop (to + n) s) to head)

  -- the target has what the source had
  pub copied-part : take n (drop to (copied_down from to n s)) ≡ take n (drop from s)
  copied-part =
      rw (copied_is, drop_at (take to s) (take n (drop from s) ++ drop (to + n) s) to head)
      (take_at (take n (drop from s)) (drop (to + n) s) n (length-take-le n (drop from s) room))

  -- the source is pasted at the target
  pub move-copied : (t : List ℕ) → t ≡ paste s to (drop from s) n → t ≡ copied_down from to n s
  move-copied t e = rw (e, copied_is) (append_assoc (take to s) (take n (drop from s)) (drop (to + n) s))

-- the places are not in order
pub up-copied : (s : List ℕ) (from to n : ℕ) → from < to → s ≡ copied_down from to n s
unfolding copied_down
up-copied s from to n h = rw (lt-leb to from h)

-- the bytes are not all there
pub short-copied : (s : List ℕ) (from to n : ℕ) → length s < from + n → s ≡ copied_down from to n s
unfolding copied_down
short-copied s from to n h = rw (lt-leb (from + n) (length s) h, and-false (leb to from))

-- ---- a word that is removed

-- all after k are pasted there
pub move-removed : (s t : List ℕ) (k : ℕ) → k < length s → t ≡ paste s k (drop (k + 1) s) (length s - (k + 1)) → t ≡ removed_at k s
unfolding removed_at
move-removed s t k h e =
    let j = length s - (k + 1) in
    let last : k + j ≡ length s - 1 = omega arith in
    let l : length (drop (k + 1) s) ≤ j = simp length-drop (omega arith) in
    let f : drop (length s - 1) s ≡ get_or s (length s - 1) 0 ∷ [] =
    column-step s 0 (length s - 1) (omega arith)
    ∙ ap (λ (r : List ℕ). get_or s (length s - 1) 0 ∷ r) (column-end s (length s - 1 + 1) (omega arith)) in
    e ∙ rw (lt-ltb k (length s) h, last, take_all j (drop (k + 1) s) l, f, add-one k, delete-split k s)

-- the length stays
pub length_removed : (k : ℕ) (col : List ℕ) → length (removed_at k col) ≡ length col
unfolding removed_at
length_removed k col =
    by-test (λ (t : List ℕ). length t ≡ length col) (ltb k (length col)) (delete_at k col ++ (get_or col (length col - 1) 0 ∷ [])) col
    (λ b. let l = length-delete k col (ltb-true k (length col) b) in simp length-append (omega arith))
    (λ b. refl)

-- the words but the last are those that are left
pub get_or-removed : (k : ℕ) (col : List ℕ) (j : ℕ) → suc j < length col → get_or (removed_at k col) j 0 ≡ get_or col (skip k j) 0
unfolding removed_at
get_or-removed k col j h =
    by-test (λ (t : List ℕ). get_or t j 0 ≡ get_or col (skip k j) 0) (ltb k (length col)) (delete_at k col ++ (get_or col (length col - 1) 0 ∷ [])) col
    (λ b.
    let l = length-delete k col (ltb-true k (length col) b) in
    get_or-append (delete_at k col) (get_or col (length col - 1) 0 ∷ []) 0 j (omega arith) ∙ get_or-delete k col 0 j)
    (λ b.
    let g = ltb-false k (length col) b in
    ap (λ (i : ℕ). get_or col i 0) (sym (skip_below k j (omega arith))))
