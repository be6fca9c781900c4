-- Laws of the writer: what the words say of the extensions that they describe.
use Prim.Native.Nat.{ℕ, suc, zero, ◌+◌, ◌-◌, ◌*◌, ◌/◌, ◌%◌, ◌<◌, ◌≤◌}
use mathlib.Core.Path.{◌≡◌, refl, sym, ap, ◌∙◌}
use mathlib.Core.Bool.{true, false, not, ◌&&◌, ◌||◌}
use mathlib.Core.List.{List, [], ◌∷◌, ◌++◌}
use native.Mathlib.Omega.{arith}
use borrow.Author.Tests.{ne_eqb, eqb-true, eqb-false, leb-true, lt-ltb, le-ltb, ltb-true, not-true}
use lib.Dec.{eqb, leb}
use lib.ListN.{length, get_or, take, drop, length-append, length-drop, length-replicate}
use lib.Seq.{length-take-le, drop-drop}
use Rattle.kinds.specs.Refusals.{order}
use Rattle.fields.specs.Fields.{encode, written, rounded}
use Rattle.fields.proofs.Fields.{length-encode, written-two}
use Rattle.extensions.specs.Extensions.{pairs, Extent, extent_bytes, extents_bytes, pointers_bytes, pointed_bytes, array_bytes}
use Rattle.bindings.proofs.ListBytes.{by_bool}
use Rattle.extensions.proofs.ArrayWalk.{both_true}
use Rattle.extension_writer.specs.Writing.{described, given, sizes, agree, entry_writable, extents_writable, words_writable, extents_length, array_length, writable, takes, write_answer, write_walk}

-- ---- one entry

pub record Entry (pointer size : ℕ) : Type 0 where
  pub some : pointer ≡ 0 → ⊥
  pub narrow : pointer < 4294967296
  pub fit : size ≤ 4294967288

pub entry : (p n : ℕ) → entry_writable p n ≡ true → Entry p n
unfolding entry_writable
entry p n e =
    let a = both_true _ _ e in
    let b = both_true _ _ a.1 in
    record { some = eqb-false _ _ (not-true _ a.0); narrow = ltb-true _ _ b.0; fit = leb-true _ _ b.1 }

-- ---- the entries from word i on, n of them

module _ (ws : List ℕ) (i n : ℕ) (h : 0 < n) where
  pub sizes-more : sizes ws i n ≡ get_or ws (i + 3) 0 + sizes ws (i + 4) (n - 1)
  unfolding sizes
  sizes-more =
      let k : n ≡ suc (n - 1) = omega arith in
      ap (sizes ws i) k

  pub words_more : words_writable ws i n ≡ (entry_writable (get_or ws (i + 2) 0) (get_or ws (i + 3) 0) && words_writable ws (i + 4) (n - 1))
  unfolding words_writable
  words_more =
      let k : n ≡ suc (n - 1) = omega arith in
      ap (words_writable ws i) k

  pub length_more : extents_length ws i n ≡ 24 + rounded (get_or ws (i + 3) 0) + extents_length ws (i + 4) (n - 1)
  unfolding extents_length
  length_more =
      let k : n ≡ suc (n - 1) = omega arith in
      ap (extents_length ws i) k

  pub described-more : (d : List ℕ) → described ws d i n
      ≡ record { pointer = get_or ws (i + 2) 0; id = record { low = get_or ws i 0; high = get_or ws (i + 1) 0 }; content = take (get_or ws (i + 3) 0) d }
      ∷ described ws (drop (get_or ws (i + 3) 0) d) (i + 4) (n - 1)
  unfolding described
  described-more d =
      let k : n ≡ suc (n - 1) = omega arith in
      ap (described ws d i) k

  pub words-first : words_writable ws i n ≡ true → (entry_writable (get_or ws (i + 2) 0) (get_or ws (i + 3) 0) ≡ true) × (words_writable ws (i + 4) (n - 1) ≡ true)
  words-first e = both_true _ _ (sym words_more ∙ e)

pub sizes-none : (ws : List ℕ) (i n : ℕ) → n ≡ 0 → sizes ws i n ≡ 0
unfolding sizes
sizes-none ws i n e = rw e

pub words-none : (ws : List ℕ) (i n : ℕ) → n ≡ 0 → words_writable ws i n ≡ true
unfolding words_writable
words-none ws i n e = rw e

pub length_none : (ws : List ℕ) (i n : ℕ) → n ≡ 0 → extents_length ws i n ≡ 0
unfolding extents_length
length_none ws i n e = rw e

pub described-none : (ws d : List ℕ) (i n : ℕ) → n ≡ 0 → described ws d i n ≡ []
unfolding described
described-none ws d i n e = rw e

-- the bytes of n extensions that can be written are few
pub length_most : (ws : List ℕ) (i n : ℕ) → words_writable ws i n ≡ true → extents_length ws i n ≤ n * 4294967320
unfolding words_writable extents_length
length_most ws i zero e = omega arith
length_most ws i (suc n) e =
    let b = both_true _ _ e in
    let f = (entry _ _ b.0).fit in
    let r = length_most ws (i + 4) n b.1 in
    omega arith

-- ---- what they describe

pub length-described : (ws d : List ℕ) (i n : ℕ) → length (described ws d i n) ≡ n
unfolding described
length-described ws d i zero = refl
length-described ws d i (suc n) = ap suc (length-described ws (drop (get_or ws (i + 3) 0) d) (i + 4) n)

pub length-extent : (e : Extent) → length (extent_bytes e) ≡ 24 + rounded (length e.content)
unfolding extent_bytes
length-extent e = simp (length-append, length-encode, length-replicate) (omega arith)

pub length-extents : (ws d : List ℕ) (i n : ℕ) → sizes ws i n ≤ length d → length (extents_bytes (described ws d i n)) ≡ extents_length ws i n
unfolding sizes described extents_bytes extents_length
length-extents ws d i zero h = refl
length-extents ws d i (suc n) h =
    let k = get_or ws (i + 3) 0 in
    let e : Extent = record { pointer = get_or ws (i + 2) 0; id = record { low = get_or ws i 0; high = get_or ws (i + 1) 0 }; content = take k d } in
    let size : length (take k d) ≡ k = length-take-le k d (omega arith) in
    let one : length (extent_bytes e) ≡ 24 + rounded k = length-extent e ∙ ap (λ (x : ℕ). 24 + rounded x) size in
    let rest = length-extents ws (drop k d) (i + 4) n (rw (length-drop k d) (omega arith)) in
    let a = length-append (extent_bytes e) (extents_bytes (described ws (drop k d) (i + 4) n)) in
    omega arith

pub words-described : (ws d : List ℕ) (i n : ℕ) → sizes ws i n ≤ length d → extents_writable (described ws d i n) ≡ words_writable ws i n
unfolding sizes described extents_writable words_writable
words-described ws d i zero h = refl
words-described ws d i (suc n) h =
    let k = get_or ws (i + 3) 0 in
    let size : length (take k d) ≡ k = length-take-le k d (omega arith) in
    let rest = words-described ws (drop k d) (i + 4) n (rw (length-drop k d) (omega arith)) in
    rw (size, rest)

-- the pointers do not hang on the data
pub pointers-described : (ws d d' : List ℕ) (i n : ℕ) → pointers_bytes (described ws d i n) ≡ pointers_bytes (described ws d' i n)
unfolding described pointers_bytes
pointers-described ws d d' i zero = refl
pointers-described ws d d' i (suc n) =
    ap (λ (x : List ℕ). encode 4 (get_or ws (i + 2) 0) ++ x) (pointers-described ws (drop (get_or ws (i + 3) 0) d) (drop (get_or ws (i + 3) 0) d') (i + 4) n)

pub length-pointers : (es : List Extent) → length (pointers_bytes es) ≡ 4 * length es
unfolding pointers_bytes
length-pointers [] = refl
length-pointers (e ∷ es) =
    let a = length-append (encode 4 e.pointer) (pointers_bytes es) in
    let b = length-encode 4 e.pointer in
    let c = length-pointers es in
    omega arith

-- ---- writing

module _ (s ws d : List ℕ) (to i n : ℕ) (h : 0 < n) where
  -- one extension, and those that are left
  pub extents-step : sizes ws i n ≤ length d → to + extents_length ws i n ≤ length s
      → written
      (written s to (extent_bytes (record { pointer = 0; id = record { low = get_or ws i 0; high = get_or ws (i + 1) 0 }; content = take (get_or ws (i + 3) 0) d })))
      (to + (24 + rounded (get_or ws (i + 3) 0)))
      (extents_bytes (described ws (drop (get_or ws (i + 3) 0) d) (i + 4) (n - 1)))
      ≡ written s to (extents_bytes (described ws d i n))
  unfolding extents_bytes extent_bytes
  extents-step sum room =
      let k = get_or ws (i + 3) 0 in
      let e : Extent = record { pointer = 0; id = record { low = get_or ws i 0; high = get_or ws (i + 1) 0 }; content = take k d } in
      let rest = described ws (drop k d) (i + 4) (n - 1) in
      let more = sizes-more ws i n h in
      let size : length (take k d) ≡ k = length-take-le k d (omega arith) in
      let one : length (extent_bytes e) ≡ 24 + rounded k = length-extent e ∙ ap (λ (x : ℕ). 24 + rounded x) size in
      let left : length (extents_bytes rest) ≡ extents_length ws (i + 4) (n - 1) = length-extents ws (drop k d) (i + 4) (n - 1) (rw (length-drop k d) (omega arith)) in
      let all = length_more ws i n h in
      written-two s (extent_bytes e) (extents_bytes rest) to (24 + rounded k) one (omega arith)
      ∙ sym (ap (λ (x : List Extent). written s to (extents_bytes x)) (described-more ws i n h d))

  -- one pointer, and those that are left
  pub pointers-step : to + 4 * n ≤ length s
      → written (written s to (encode 4 (get_or ws (i + 2) 0))) (to + 4) (pointers_bytes (described ws [] (i + 4) (n - 1))) ≡ written s to (pointers_bytes (described ws [] i n))
  unfolding pointers_bytes
  pointers-step room =
      let rest = described ws [] (i + 4) (n - 1) in
      let left : length (pointers_bytes rest) ≡ 4 * (n - 1) = length-pointers rest ∙ ap (λ (x : ℕ). 4 * x) (length-described ws [] (i + 4) (n - 1)) in
      let same = pointers-described ws (drop (get_or ws (i + 3) 0) []) [] (i + 4) (n - 1) in
      written-two s (encode 4 (get_or ws (i + 2) 0)) (pointers_bytes rest) to 4 (length-encode 4 (get_or ws (i + 2) 0)) (omega arith)
      ∙ sym (ap (λ (x : List Extent). written s to (pointers_bytes x)) (described-more ws i n h []) ∙ ap (λ (x : List ℕ). written s to (encode 4 (get_or ws (i + 2) 0) ++ x)) same)

-- the part of the data from a place on
module _ (d : List ℕ) (from k : ℕ) where
  part_same : take (from + k - from) (drop from d) ≡ take k (drop from d)
  part_same =
      let e : from + k - from ≡ k = omega arith in
      rw e

  pub part_length : from + k ≤ length d → length (take (from + k - from) (drop from d)) ≡ k
  part_length h = ap length part_same ∙ length-take-le k (drop from d) (rw (length-drop from d) (omega arith))

pub extents-next : (s ws d : List ℕ) (to from i n : ℕ) → 0 < n → from + sizes ws i n ≤ length d → to + extents_length ws i n ≤ length s
    → written
    (written s to (extent_bytes (record { pointer = 0; id = record { low = get_or ws i 0; high = get_or ws (i + 1) 0 }; content = take (from + get_or ws (i + 3) 0 - from) (drop from d) })))
    (to + (24 + rounded (get_or ws (i + 3) 0)))
    (extents_bytes (described ws (drop (from + get_or ws (i + 3) 0) d) (i + 4) (n - 1)))
    ≡ written s to (extents_bytes (described ws (drop from d) i n))
extents-next s ws d to from i n h sum room =
    rw (part_same d from (get_or ws (i + 3) 0), ← drop-drop (get_or ws (i + 3) 0) from d)
    (extents-step s ws (drop from d) to i n h (rw (length-drop from d) (omega arith)) room)

-- ---- what can be written

-- with no pointer to the array there are no extensions
pub bare : (ws d : List ℕ) (n : ℕ) → eqb n 0 ≡ (eqb n 0 && extents_writable (described ws d 0 n))
unfolding extents_writable described
bare ws d zero = refl
bare ws d (suc n) = let no : suc n ≡ 0 → ⊥ = λ e. omega arith in rw (ne_eqb (suc n) 0 no)

pub record Good (ws d : List ℕ) : Type 0 where
  pub few : length ws / 4 ≤ 32
  pub words : words_writable ws 0 (length ws / 4) ≡ true
  pub sum : sizes ws 0 (length ws / 4) ≡ length d

module _ (header pointer : ℕ) (ws d : List ℕ) where
  pub good : takes header pointer ws d ≡ true → Good ws d
  unfolding takes agree writable given
  good e =
      let a = both_true (agree ws d) (writable (given header pointer ws d)) e in
      let able : writable (given header pointer ws d) ≡ true = a.1 in
      let sum : sizes ws 0 (length ws / 4) ≡ length d = eqb-true _ _ (both_true (eqb (length ws % 4) 0) (eqb (sizes ws 0 (length ws / 4)) (length d)) a.0).1 in
      let count = length-described ws d 0 (length ws / 4) in
      let same = words-described ws d 0 (length ws / 4) (omega arith) in
      by_bool (eqb header 0)
      (λ z.
      let b = both_true (eqb pointer 0) (eqb (length (described ws d 0 (length ws / 4))) 0) (rw z at able) in
      let none : length ws / 4 ≡ 0 = sym count ∙ eqb-true _ _ b.1 in
      record { few = omega arith; words = words-none ws 0 (length ws / 4) none; sum = sum })
      (λ z.
      let es = described ws d 0 (length ws / 4) in
      let b = both_true (leb (length es) 32) ((not (eqb pointer 0) || eqb (length es) 0) && extents_writable es) (rw z at able) in
      let c = both_true (not (eqb pointer 0) || eqb (length es) 0) (extents_writable es) b.1 in
      let few : length (described ws d 0 (length ws / 4)) ≤ 32 = leb-true _ _ b.0 in
      record { few = omega arith; words = sym same ∙ c.1; sum = sum })

  -- how long what its pointer points to is
  pub length-pointed : sizes ws 0 (length ws / 4) ≤ length d → length (pointed_bytes (described ws d 0 (length ws / 4))) ≡ 4 + 4 * pairs (length ws / 4) + extents_length ws 0 (length ws / 4)
  unfolding pointed_bytes
  length-pointed sum =
      let n = length ws / 4 in
      let count = length-described ws d 0 n in
      let p = length-pointers (described ws d 0 n) in
      let x = length-extents ws d 0 n sum in
      simp (length-append, length-encode, length-replicate, p, x, count) (omega arith)

  -- how long the array is
  pub length-array : sizes ws 0 (length ws / 4) ≤ length d → length (array_bytes (given header pointer ws d)) ≡ array_length header pointer ws
  unfolding array_bytes given array_length pointed_bytes
  length-array sum =
      let n = length ws / 4 in
      let es = described ws d 0 n in
      let count = length-described ws d 0 n in
      by_bool (eqb header 0)
      (λ z. rw z (simp (length-append, length-encode)))
      (λ z.
      by_bool (eqb pointer 0)
      (λ y. rw (z, y) (simp (length-append, length-encode)))
      (λ y.
      let p = length-pointers es in
      let x = length-extents ws d 0 n sum in
      rw (z, y) (simp (length-append, length-encode, length-replicate, p, x, count) (omega arith))))

-- how long it is, by its two pointers
pub length-bare : (header pointer : ℕ) (ws : List ℕ) → (header ≡ 0 → ⊥) → pointer ≡ 0 → array_length header pointer ws ≡ 16
unfolding array_length
length-bare header pointer ws h e = rw (ne_eqb _ _ h, e)

pub length-full : (header pointer : ℕ) (ws : List ℕ) → (header ≡ 0 → ⊥) → (pointer ≡ 0 → ⊥)
    → array_length header pointer ws ≡ 20 + 4 * pairs (length ws / 4) + extents_length ws 0 (length ws / 4)
unfolding array_length
length-full header pointer ws h p = rw (ne_eqb _ _ h, ne_eqb _ _ p)

-- ---- the writer's answers

module _ (header pointer : ℕ) (ws d : List ℕ) (at n : ℕ) where
  pub writing-refused : takes header pointer ws d ≡ false → write_walk header pointer ws d at n ≡ record { answer = 14; to = 0 }
  unfolding write_walk write_answer order
  writing-refused e = rw e

  module _ (able : takes header pointer ws d ≡ true) where
    sum : sizes ws 0 (length ws / 4) ≤ length d
    sum = let g = good header pointer ws d able in omega (arith, g.sum)

    pub writing-short : n < at + array_length header pointer ws → write_walk header pointer ws d at n ≡ record { answer = 15; to = 0 }
    unfolding write_walk write_answer order
    writing-short h = rw (able, length-array header pointer ws d sum, lt-ltb _ _ h)

    pub writing-done : at + array_length header pointer ws ≤ n → write_walk header pointer ws d at n ≡ record { answer = 0; to = at + array_length header pointer ws }
    unfolding write_walk write_answer order
    writing-done h = rw (able, length-array header pointer ws d sum, le-ltb _ _ h)
