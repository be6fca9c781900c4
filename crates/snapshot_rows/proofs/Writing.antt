-- Bytes that are written one after the other: what is left to write from here gives what the whole gives.
use Prim.Native.Nat.{ℕ, ◌+◌, ◌<◌, ◌≤◌}
use mathlib.Core.Path.{◌≡◌, refl, sym, ap, ◌∙◌}
use mathlib.Core.Bool.{true}
use mathlib.Core.List.{List, [], ◌∷◌, ◌++◌, map}
use native.Mathlib.Omega.{arith}
use borrow.Author.Tests.{ltb-true}
use lib.Dec.{ltb}
use lib.ListN.{length, get_or, drop, length-append}
use Rattle.fields.specs.Fields.{written}
use Rattle.fields.proofs.Fields.{written_none, written-two, length-written}
use Rattle.lists.specs.Lists.{every}
use Rattle.lists.proofs.Lists.{every-at}
use Rattle.table_columns.proofs.Loops.{column-step, column-end}
use Rattle.rules.specs.Snapshot.{in_row}
use Rattle.snapshot_rows.specs.Writing.{Room, Wrote}

-- x left to write from at into b, of x₀ from at₀ into b₀
pub record Left (b₀ : List ℕ) (at₀ : ℕ) (x₀ b : List ℕ) (at : ℕ) (x : List ℕ) : Type 0 where
  pub left : written b at x ≡ written b₀ at₀ x₀
  pub place : at + length x ≡ at₀ + length x₀
  pub size : length b ≡ length b₀

-- nothing is written yet
pub left-all : (b : List ℕ) (at : ℕ) (x : List ℕ) → Left b at x b at x
left-all b at x = record { left = refl; place = refl; size = refl }

module _ {b₀ : List ℕ} {at₀ : ℕ} {x₀ b : List ℕ} {at : ℕ} where
  -- the same bytes
  pub left-same : {x y : List ℕ} → x ≡ y → Left b₀ at₀ x₀ b at x → Left b₀ at₀ x₀ b at y
  left-same e l = rw e at l

  -- there is room for what is left
  pub left-fits : {x : List ℕ} → Room b₀ at₀ x₀ → Left b₀ at₀ x₀ b at x → Room b at x
  left-fits room l =
      let p = l.place in
      let s = l.size in
      omega arith

  -- what is left of what is left
  pub left-then : {x b' y : List ℕ} {at' : ℕ} → Left b₀ at₀ x₀ b at x → Left b at x b' at' y → Left b₀ at₀ x₀ b' at' y
  left-then l m = record { left = m.left ∙ l.left; place = m.place ∙ l.place; size = m.size ∙ l.size }

  -- nothing is left
  pub left-none : {x : List ℕ} → x ≡ [] → Left b₀ at₀ x₀ b at x → Wrote b₀ at₀ x₀ b at
  left-none e l =
      let f = left-same e l in
      let p = f.place in
      record { held = sym (written_none b at) ∙ f.left; ends = omega arith }

  module _ (x y : List ℕ) (room : Room b₀ at₀ x₀) (l : Left b₀ at₀ x₀ b at (x ++ y)) where
    -- there is room for what comes next
    pub left-room : Room b at x
    left-room =
        let n = length-append x y in
        let p = l.place in
        let s = l.size in
        omega arith

    -- it is written
    pub left_step : {b' : List ℕ} {at' : ℕ} → Wrote b at x b' at' → Left b₀ at₀ x₀ b' at' y
    left_step {b'} {at'} w =
        let n = length-append x y in
        let p = l.place in
        let s = l.size in
        let e = w.ends in
        record {
          left =
              (λ u. written (w.held u) (w.ends u) y)
              ∙ written-two b x y at (length x) refl (omega arith)
              ∙ l.left;
          place = omega arith;
          size = ap length w.held ∙ length-written b at x ∙ s;
        }

-- ---- rows

module _ {A : Type 0} (bytes : A → List ℕ) where
  pub row-none : in_row bytes [] ≡ []
  unfolding in_row
  row-none = refl

  -- the first of the elements from k on, and the rest
  pub row_next : (xs : List A) (d : A) (k : ℕ) → k < length xs → in_row bytes (drop k xs) ≡ bytes (get_or xs k d) ++ in_row bytes (drop (k + 1) xs)
  unfolding in_row
  row_next xs d k h = rw (column-step xs d k h)

  -- none is left
  pub row-end : (xs : List A) (k : ℕ) → length xs ≤ k → in_row bytes (drop k xs) ≡ []
  row-end xs k h = ap (in_row bytes) (column-end xs k h) ∙ row-none

-- the row of images
pub row-map : {A B : Type 0} (bytes : B → List ℕ) (f : A → B) (xs : List A) → in_row bytes (map f xs) ≡ in_row (λ x. bytes (f x)) xs
unfolding in_row
row-map bytes f [] = refl
row-map bytes f (x ∷ xs) = ap (λ (l : List ℕ). bytes (f x) ++ l) (row-map bytes f xs)

-- ---- loops over rows

module _ (bytes : ℕ → List ℕ) (rows : List ℕ) (n : ℕ) (live : every (λ i. ltb i n) rows ≡ true) (k : ℕ) (h : k < length rows) where
  -- the next row is one of the entries
  pub next-live : get_or rows k 0 < n
  next-live = ltb-true (get_or rows k 0) n (every-at (λ i. ltb i n) rows 0 k h live)

  module _ {b₀ b : List ℕ} {at₀ at : ℕ} (room : Room b₀ at₀ (in_row bytes rows)) (l : Left b₀ at₀ (in_row bytes rows) b at (in_row bytes (drop k rows))) where
    -- there is room for it
    pub next-room : Room b at (bytes (get_or rows k 0))
    next-room = left-room (bytes (get_or rows k 0)) (in_row bytes (drop (k + 1) rows)) room (left-same (row_next bytes rows 0 k h) l)

    -- it is written
    pub next-put : {b' : List ℕ} {at' : ℕ} → Wrote b at (bytes (get_or rows k 0)) b' at' → Left b₀ at₀ (in_row bytes rows) b' at' (in_row bytes (drop (k + 1) rows))
    next-put w = left_step (bytes (get_or rows k 0)) (in_row bytes (drop (k + 1) rows)) room (left-same (row_next bytes rows 0 k h) l) w
