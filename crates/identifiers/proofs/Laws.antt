-- Laws of indexes and of the rows that they lead to.
use Prim.Native.Nat.{ℕ, zero, suc, ◌%◌, ◌<◌, ◌≤◌}
use mathlib.Core.Path.{◌≡◌, refl, sym, ap, ◌∙◌}
use mathlib.Core.Bool.{Bool, true, false, not, ◌&&◌, ◌||◌, or-true, or-false, true≢false}
use mathlib.Core.List.{List, [], ◌∷◌}
use mathlib.Core.Logic.{⊎_elim}
use native.Mathlib.Omega.{arith}
use borrow.Author.Tests.{eq-eqb, ne_eqb, eqb-true, ltb-true, lt-ltb, le-ltb}
use lib.Dec.{eqb, ltb}
use lib.ListN.{length, get_or, set, take}
use lib.Seq.{get_or-set_same, get_or-set_other, get_or-take, length-take-le}
use Rattle.std.proofs.Common.{Option, Some, None, MatchOption, subst, is_some, cond}
use Rattle.std.specs.List.{position, position_or_len}
use Rattle.std.proofs.lemmas.List.Sums.{passes_at_first}
use Rattle.lists.specs.Lists.{every, some, nonzero, distinct, among, first_index}
use Rattle.lists.proofs.Tests.{same_or_not, below_or_not, and_intro, and_left, and_right}
use Rattle.lists.proofs.First.{some_first}
use Rattle.lists.proofs.Lists.{every-mono, every-ext, none-some, some_at, some-cons}
use Rattle.lists.proofs.Distinct.{eqb-decides, same-comm, distinct_none, distinct_cons, distinct-at}
use Rattle.table_columns.specs.Buckets.{word_bucket}
use Rattle.table_columns.proofs.Chains.{position-first}
use Rattle.table_columns.proofs.buckets.Absence.{each-absent}
use Rattle.identifiers.proofs.Noting.{Before, each-indexed}
use Rattle.identifiers.specs.Index.{climbing, noted, IndexedWords, Noted, StandsAt}

-- ---- lists

-- two tests that agree at each index
pub every-agree : {A B : Type 0} (p : A → Bool) (q : B → Bool) (a : A) (b : B) (xs : List A) (ys : List B) → length xs ≡ length ys
    → ((j : ℕ) → j < length ys → p (get_or xs j a) ≡ q (get_or ys j b)) → every p xs ≡ every q ys
unfolding every
every-agree p q a b [] [] l h = refl
every-agree p q a b [] (y ∷ ys) l h = absurd (omega arith)
every-agree p q a b (x ∷ xs) [] l h = absurd (omega arith)
every-agree p q a b (x ∷ xs) (y ∷ ys) l h = λ u. h zero (omega arith) u && every-agree p q a b xs ys (omega arith) (λ j g. h (suc j) (omega arith)) u

-- ---- numbers that climb

-- they are all above a
climbing-above : (a b : ℕ) (xs : List ℕ) → a ≤ b → climbing b xs ≡ true → every (ltb a) xs ≡ true
unfolding climbing every
climbing-above a b [] h e = refl
climbing-above a b (x ∷ xs) h e =
    let l = ltb-true b x (and_left (ltb b x) (climbing x xs) e) in
    and_intro (ltb a x) (every (ltb a) xs) (lt-ltb a x (omega arith)) (climbing-above a x xs (omega arith) (and_right (ltb b x) (climbing x xs) e))

-- numbers above a are not a
above-not : (a : ℕ) (xs : List ℕ) → every (ltb a) xs ≡ true → every (λ x. not (eqb a x)) xs ≡ true
above-not a xs e = every-mono (ltb a) (λ x. not (eqb a x)) (λ x t. let l = ltb-true a x t in ap not (ne_eqb a x (λ z. omega arith))) xs e

-- no two are the same
climbing-distinct : (a : ℕ) (xs : List ℕ) → climbing a xs ≡ true → distinct eqb xs ≡ true
unfolding climbing
climbing-distinct a [] e = distinct_none eqb
climbing-distinct a (x ∷ xs) e =
    let t = and_right (ltb a x) (climbing x xs) e in
    distinct_cons eqb x xs (none-some (eqb x) xs (above-not x xs (climbing-above x x xs (omega arith) t))) (climbing-distinct x xs t)

-- from 0 on they are proper
pub climbing-proper : (xs : List ℕ) → climbing 0 xs ≡ true → (nonzero xs && distinct eqb xs) ≡ true
climbing-proper xs e =
    and_intro (nonzero xs) (distinct eqb xs)
    (every-ext (λ x. not (eqb x 0)) (λ x. not (eqb 0 x)) (λ x. ap not (same-comm eqb eqb-decides x 0)) xs ∙ above-not 0 xs (climbing-above 0 0 xs (omega arith) e))
    (climbing-distinct 0 xs e)

-- the first of those that are left is above the last, or not
module _ {w : Bool} {a x : ℕ} {xs ys : List ℕ} (h : w ≡ climbing a ys) (e : ys ≡ x ∷ xs) where
  pub climbs-on : a < x → w ≡ climbing x xs
  unfolding climbing
  climbs-on l = h ∙ rw (e, lt-ltb a x l)

  pub climbs-not : x ≤ a → false ≡ w
  unfolding climbing
  climbs-not l = sym (h ∙ rw (e, le-ltb a x l))

-- none is left
pub climbs-end : {w : Bool} (a : ℕ) {ys : List ℕ} → w ≡ climbing a ys → ys ≡ [] → true ≡ w
unfolding climbing
climbs-end a h e = sym (h ∙ rw e)

-- ---- the index of a column

-- a row is not 0
abbrev is_row : ℕ → Bool
is_row n = not (eqb n 0)

-- a word whose bucket has no row is not there
pub unindexed : {xs rows : List ℕ} {b : ℕ} (x : ℕ) → IndexedWords rows xs → (b ≡ word_bucket x % length rows) × (b < length rows) → get_or rows b 0 ≡ 0 → among xs x ≡ false
unindexed {xs} {rows} x m q z =
    each-absent (λ y. word_bucket y % length rows) is_row 0 eqb eqb-decides xs rows x m.each (ap not (eq-eqb (get_or rows (word_bucket x % length rows) 0) 0 (rw (← q.0) z)))

-- a word is noted in m rows; the numbers lead to a column
abbrev pub word_noted : ℕ → List ℕ → List ℕ → ℕ → Bool
word_noted m col rows x = noted (get_or rows (word_bucket x % m) 0) (get_or rows (x % m) 0) (λ i. eqb x (get_or col i 0))

-- the column is not proper
pub noted-not : (col rows : List ℕ) → (nonzero col && distinct eqb col) ≡ false → Noted col rows false
noted-not col rows e = record { judged = sym e; indexed = λ t. absurd (true≢false (sym t)) }

-- the column is proper and noted
pub noted-all : {m : ℕ} {col rows : List ℕ} → length rows ≡ m → 0 < m → Before eqb 0 (word_noted m col rows) col col → Noted col rows true
noted-all {m} {col} {rows} l h p =
    record {
      judged = sym (and_intro (nonzero col) (distinct eqb col) p.named p.differ);
      indexed = λ t. record { room = rw l h; each = rw l (each-indexed (λ x. word_bucket x % m) (λ x. x % m) (λ x i. eqb x (get_or col i 0)) rows col p.each) };
    }

-- ---- rows

-- where a word stands it is there
pub row_here : (x r : ℕ) (col : List ℕ) → StandsAt x col r → among col x ≡ true
row_here x r col q = some_at (eqb x) col 0 r q.0 (eq-eqb x (get_or col r 0) (sym q.1))

-- a search of the whole column
pub row-searched : (x : ℕ) (col : List ℕ) {o : Option ℕ} → o ≡ position (eqb x) col → MatchOption o (among col x ≡ false) (StandsAt x col)
row-searched x col e =
    let n = position_or_len (eqb x) col in
    let P : Option ℕ → Type 0 = λ o. MatchOption o (among col x ≡ false) (StandsAt x col) in
    let told : Bool → Option ℕ = λ b. cond b (Some n) None in
    ⊎_elim
    (λ (h : n < length col). subst P (sym (e ∙ ap told (lt-ltb n (length col) h))) (h, sym (eqb-true x (get_or col n 0) (passes_at_first (eqb x) col 0 h))))
    (λ (h : length col ≤ n).
    let f = position-first (eqb x) col in
    subst P (sym (e ∙ ap told (le-ltb n (length col) h))) (sym (some_first (eqb x) col) ∙ le-ltb (first_index (eqb x) col) (length col) (omega arith)))
    (below_or_not n (length col))

-- a word that has a row is there, and one that has none is not
pub row-tells : (x : ℕ) (col : List ℕ) (o : Option ℕ) → MatchOption o (among col x ≡ false) (StandsAt x col) → is_some o ≡ among col x
row-tells x col None m = sym m
row-tells x col (Some r) q = sym (row_here x r col q)

-- the rows of the words of a that were met; those of the words ys are left
abbrev pub Met : List ℕ → List ℕ → List Bool → List ℕ → Type 0
Met col a met ys = (j : ℕ) → j < length col → among a (get_or col j 0) ≡ (get_or met j false || among ys (get_or col j 0))

-- one more is met
pub met-one : (col a : List ℕ) (met : List Bool) {x r : ℕ} {xs ys : List ℕ} → ys ≡ x ∷ xs → StandsAt x col r → length col ≤ length met → distinct eqb col ≡ true
    → Met col a met ys → Met col a (set met r true) xs
met-one col a met {x} {r} {xs} {ys} e q l d m j b =
    let y = get_or col j 0 in
    let left : among a y ≡ (get_or met j false || (eqb y x || among xs y)) = m j b ∙ ap (λ (t : Bool). get_or met j false || t) (ap (λ (zs : List ℕ). among zs y) e ∙ some-cons (eqb y) x xs) in
    ⊎_elim
    (λ (s : j ≡ r).
    let here : eqb y x ≡ true = eq-eqb y x (ap (λ (k : ℕ). get_or col k 0) s ∙ q.1) in
    let g : j < length met = omega arith in
    left ∙ rw (here, ← s, get_or-set_same met j true false g) (or-true (get_or met j false)))
    (λ n.
    let other : eqb y x ≡ false = ne_eqb y x (λ z. n (distinct-at eqb eqb-decides col 0 d j r b q.0 (z ∙ sym q.1))) in
    left ∙ rw (other, get_or-set_other met r j true false n))
    (same_or_not j r)

-- where all are met, a has every word of the column whose row is met
pub met_all : (col a : List ℕ) (met : List Bool) {ys : List ℕ} → ys ≡ [] → length col ≤ length met → Met col a met ys → every (λ b. b) (take (length col) met) ≡ every (among a) col
unfolding some
met_all col a met e h m =
    every-agree (λ b. b) (among a) false 0 (take (length col) met) col (length-take-le (length col) met h)
    (λ j b. get_or-take (length col) met j false b ∙ sym (m j b ∙ rw e (or-false (get_or met j false))))
