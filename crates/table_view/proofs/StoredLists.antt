-- The lists in the store: where each begins, and that a list which is put after the last one, or moved down, is the same list.
use Prim.Native.Nat.{ℕ, zero, suc, ◌+◌, ◌-◌, ◌<◌, ◌≤◌}
use mathlib.Core.Path.{◌≡◌, refl, sym, ap, ◌∙◌}
use mathlib.Core.List.{List, ◌++◌, append_assoc}
use mathlib.Core.Logic.{⊎_elim}
use native.Mathlib.Omega.{arith}
use borrow.Author.Tests.{le-leb, leb-true}
use borrow.Rule.Slice.PartMut.{mid_of, post_of, put_mid, take_put, mid_len}
use lib.Dec.{leb}
use lib.ListN.{length, take, drop, length-take}
use lib.Seq.{drop_at, length-take-le, take-take}
use Rattle.kinds.proofs.Refusing.{same_test}
use Rattle.fields.specs.Fields.{field, written}
use Rattle.fields.proofs.Fields.{part_of, written-front}
use Rattle.bindings.specs.Bindings.{list_length, list_answer}
use Rattle.bindings.proofs.ListAnswers.{list-front-taken}
use Rattle.lists.specs.Lists.{skip}
use Rattle.lists.proofs.Tests.{below_or_not}
use Rattle.lists.proofs.Lists.{skip_below, skip-from}
use Rattle.table_columns.proofs.Moves.{copied-before, copied-part}
use Rattle.table_view.specs.View.{list_start, list_from, list_at}
use Rattle.table_view.specs.Placed.{closed, ClosedUp}

-- ---- starts

-- the next list begins where this one ends
pub start-next : (s : List ℕ) (i : ℕ) → list_start s (suc i) ≡ list_start s i + list_length (list_from s i)
unfolding list_start
start-next s i = refl

pub start_first : (s : List ℕ) → list_start s 0 ≡ 0
unfolding list_start
start_first s = refl

-- a list has at least the bytes of N and S
pub list-four : (s : List ℕ) → 4 ≤ list_length s
unfolding list_length
list-four s = omega arith

-- later lists begin later
starts-after : (s : List ℕ) (i d : ℕ) → list_start s i ≤ list_start s (i + d)
starts-after s i zero = let e : i + 0 ≡ i = omega arith in rw e (omega arith)
starts-after s i (suc d) =
    let h = starts-after s i d in
    let e : i + suc d ≡ suc (i + d) = omega arith in
    rw (e, start-next s (i + d)) (omega arith)

pub starts-rise : (s : List ℕ) (i j : ℕ) → i ≤ j → list_start s i ≤ list_start s j
starts-rise s i j h = let e : i + (j - i) ≡ j = omega arith in rw e at (starts-after s i (j - i))

-- behind the list that begins at the start of list j begins the next one, within the bytes where a later one does
pub list-next : (s : List ℕ) (i j at n : ℕ) → j < i → list_start s i ≤ length s → at ≡ list_start s j → n ≡ list_length (drop at s)
    → (at + n ≡ list_start s (suc j)) × (at + n ≤ length s)
list-next s i j at n h b e m =
    let next : at + n ≡ list_start s (suc j) = rw (start-next s j, ← e) (ap (λ (k : ℕ). at + k) m) in
    let r = starts-rise s (suc j) i h in
    (next, omega arith)

-- ---- lists that are the same, or that moved

-- the same first bytes are the same list at the front
front_length_lem : (s s' : List ℕ) (w : ℕ) → 2 ≤ w → take w s' ≡ take w s → list_length s' ≡ list_length s
unfolding list_length field
front_length_lem s s' w h e =
    let n : length (take w s') ≡ length (take w s) = ap length e in
    let a = length-take w s' in
    let b = length-take w s in
    let t : leb 2 (length s') ≡ leb 2 (length s) =
    same_test _ _
    (λ x. let y = leb-true 2 (length s') x in le-leb 2 (length s) (omega arith))
    (λ x. let y = leb-true 2 (length s) x in le-leb 2 (length s') (omega arith)) in
    let f : take 2 s' ≡ take 2 s = sym (take-take 2 w s' h) ∙ ap (take 2) e ∙ take-take 2 w s h in
    rw (t, f)

-- a list within bytes that stand at b in s and at a in s'
module _ (s s' : List ℕ) (a b n : ℕ) (same : take n (drop a s') ≡ take n (drop b s)) where
  part_moved : (k w : ℕ) → k + w ≤ n → take w (drop (a + k) s') ≡ take w (drop (b + k) s)
  part_moved k w h = part_of s' (take n (drop b s)) a n k w same h ∙ sym (part_of s (take n (drop b s)) b n k w refl h)

  -- its length
  pub length_moved : (k : ℕ) → k + list_length (drop (b + k) s) ≤ n → list_length (drop (a + k) s') ≡ list_length (drop (b + k) s)
  length_moved k h =
      let four = list-four (drop (b + k) s) in
      front_length_lem _ _ (list_length (drop (b + k) s)) (omega arith) (part_moved k _ h)

  -- its bytes
  pub list-moved : (k : ℕ) → k + list_length (drop (b + k) s) ≤ n
      → take (list_length (drop (a + k) s')) (drop (a + k) s') ≡ take (list_length (drop (b + k) s)) (drop (b + k) s)
  list-moved k h = rw (length_moved k h) (part_moved k _ h)

-- ---- the first n lists where nothing changed before their end

module _ (s s' : List ℕ) (n e : ℕ) (same : take e s' ≡ take e s) (fits : list_start s n ≤ e) where
  pub starts-same : (i : ℕ) → i ≤ n → list_start s' i ≡ list_start s i
  starts-same zero h = start_first s' ∙ sym (start_first s)
  starts-same (suc i) h =
      let x = starts-same i (omega arith) in
      let r = starts-rise s (suc i) n h in
      let q = start-next s i in
      let z : 0 + list_start s i ≡ list_start s i = omega arith in
      let m : list_length (drop (list_start s i) s') ≡ list_length (drop (list_start s i) s) =
      rw z at (length_moved s s' 0 0 e same (list_start s i) (rw z (omega arith))) in
      rw (start-next s' i, x, m, start-next s i)

  pub lists-same : (i : ℕ) → i < n → list_at s' i ≡ list_at s i
  lists-same i h =
      let x = starts-same i (omega arith) in
      let r = starts-rise s (suc i) n h in
      let q = start-next s i in
      let z : 0 + list_start s i ≡ list_start s i = omega arith in
      rw x (rw z at (list-moved s s' 0 0 e same (list_start s i) (rw z (omega arith))))

-- ---- a list after the first n

-- the store with a list written where list n begins
abbrev pub placed : List ℕ → List ℕ → ℕ → List ℕ
placed s l n = put_mid (list_start s n) (length s - list_start s n) s (written (mid_of (list_start s n) (length s - list_start s n) s) 0 l)

module _ (s l : List ℕ) (n : ℕ) (done : list_answer l ≡ 0) (room : list_start s n + length l ≤ length s) where
  -- the bytes before it stay
  placed-before : take (list_start s n) (placed s l n) ≡ take (list_start s n) s
  placed-before =
      let a = list_start s n in
      take_put a (length s - a) s (written (mid_of a (length s - a) s) 0 l) (omega arith)

  -- list n is the list
  pub placed-list : list_at (placed s l n) n ≡ l
  placed-list =
      let a = list_start s n in
      let b = mid_of a (length s - a) s in
      let rest = drop (length l) b ++ post_of a (length s - a) s in
      let w : length b ≡ length s - a = mid_len a (length s) s (omega arith) in
      let f : written b 0 l ≡ l ++ drop (length l) b = written-front b l (omega arith) in
      let d : drop a (placed s l n) ≡ l ++ rest =
      drop_at (take a s) _ a (length-take-le a s (omega arith))
      ∙ ap (λ (x : List ℕ). x ++ post_of a (length s - a) s) f
      ∙ append_assoc l (drop (length l) b) (post_of a (length s - a) s) in
      let same : list_start (placed s l n) n ≡ a = starts-same s (placed s l n) n a placed-before (omega arith) n (omega arith) in
      rw (same, d) (list-front-taken l rest done)

  -- the first n are the same
  pub placed-others : (i : ℕ) → i < n → list_at (placed s l n) i ≡ list_at s i
  placed-others i h = lists-same s (placed s l n) n (list_start s n) placed-before (omega arith) i h

-- ---- a list that goes

module _ (s : List ℕ) (k n : ℕ) (live : k < n) (room : list_start s n ≤ length s) where
  in_order_lem : list_start s k ≤ list_start s (suc k)
  in_order_lem = starts-rise s k (suc k) (omega arith)

  in-store : list_start s (suc k) + (list_start s n - list_start s (suc k)) ≤ length s
  in-store = let r = starts-rise s (suc k) n live in omega arith

  before-hole : take (list_start s k) (closed s k n) ≡ take (list_start s k) s
  before-hole = copied-before s (list_start s (suc k)) (list_start s k) (list_start s n - list_start s (suc k)) in_order_lem in-store

  behind-hole : take (list_start s n - list_start s (suc k)) (drop (list_start s k) (closed s k n)) ≡ take (list_start s n - list_start s (suc k)) (drop (list_start s (suc k)) s)
  behind-hole = copied-part s (list_start s (suc k)) (list_start s k) (list_start s n - list_start s (suc k)) in_order_lem in-store

  -- how far into the moved bytes list k + d begins
  abbrev off : ℕ → ℕ
  off d = list_start s (suc (k + d)) - list_start s (suc k)

  off-starts : (d : ℕ) → list_start s (suc k) + off d ≡ list_start s (suc (k + d))
  off-starts d = let r = starts-rise s (suc k) (suc (k + d)) (omega arith) in omega arith

  off-fits : (d : ℕ) → suc (k + d) < n → off d + list_length (drop (list_start s (suc k) + off d) s) ≤ list_start s n - list_start s (suc k)
  off-fits d h =
      let o = off-starts d in
      let q = start-next s (suc (k + d)) in
      let r = starts-rise s (suc (suc (k + d))) n h in
      rw o (omega arith)

  -- the later lists begin earlier, by the length of the one that goes
  moved-starts : (d : ℕ) → k + d < n → list_start (closed s k n) (k + d) ≡ list_start s k + off d
  moved-starts zero h =
      let z : k + 0 ≡ k = omega arith in
      let e : list_start s (suc k) - list_start s (suc k) ≡ 0 = omega arith in
      let f : list_start s k + 0 ≡ list_start s k = omega arith in
      rw (z, e, f) (starts-same s (closed s k n) k (list_start s k) before-hole (omega arith) k (omega arith))
  moved-starts (suc d) h =
      let z : k + suc d ≡ suc (k + d) = omega arith in
      let x = moved-starts d (omega arith) in
      let o = off-starts d in
      let m = length_moved s (closed s k n) (list_start s k) (list_start s (suc k)) _ behind-hole (off d) (off-fits d (omega arith)) in
      let q = start-next s (suc (k + d)) in
      let r = starts-rise s (suc k) (suc (k + d)) (omega arith) in
      rw (z, start-next (closed s k n) (k + d), x, m, o, q) (omega arith)

  -- what was list k + d + 1 is list k + d
  moved_lists : (d : ℕ) → suc (k + d) < n → list_at (closed s k n) (k + d) ≡ list_at s (suc (k + d))
  moved_lists d h =
      rw (moved-starts d (omega arith))
      (list-moved s (closed s k n) (list_start s k) (list_start s (suc k)) _ behind-hole (off d) (off-fits d h) ∙ (rw (off-starts d)))

  -- every other list is as it was
  others_same : (j : ℕ) → suc j < n → list_at (closed s k n) j ≡ list_at s (skip k j)
  others_same j h =
      ⊎_elim
      (λ (b : j < k). rw (skip_below k j b) (lists-same s (closed s k n) k (list_start s k) before-hole (omega arith) j b))
      (λ (b : k ≤ j).
      let e : k + (j - k) ≡ j = omega arith in
      rw (skip-from k j b) (rw e at (moved_lists (j - k) (rw e h))))
      (below_or_not j k)

pub closed-up : ClosedUp
closed-up s k n live room j h = others_same s k n live room j h
