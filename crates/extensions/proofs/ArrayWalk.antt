-- Laws of the walk over an array: what is left from a place answers as the whole does.
use Prim.Native.Nat.{ℕ, suc, zero, ◌+◌, ◌-◌, ◌*◌, ◌<◌, ◌≤◌}
use mathlib.Core.Path.{◌≡◌, refl, sym, ap, ◌∙◌}
use mathlib.Core.Bool.{Bool, true, false, cond, not, ◌&&◌}
use mathlib.Core.List.{List}
use native.Mathlib.Omega.{arith}
use borrow.Author.Tests.{eq-eqb, ne_eqb, eqb-true, eqb-false, leb-true, ltb-true, ltb-false, le-ltb, not-false}
use lib.Dec.{eqb, ltb, leb}
use lib.ListN.{length, take, drop}
use Rattle.std.specs.Prelude.{Result, Ok, Err}
use Rattle.kinds.specs.Answers.{refusal_number, answer_number}
use Rattle.kinds.specs.Refusals.{differ, order}
use Rattle.kinds.specs.declared.refusal.Refusal.{Refusal}
use Rattle.kinds.proofs.Answering.{refusal-some}
use Rattle.kinds.proofs.Refusing.{true-false, by-test, differ-false, passed, passed_on, last_row}
use Rattle.lists.proofs.Tests.{and_left, and_right}
use Rattle.fields.specs.Fields.{field, all_zero, rounded}
use Rattle.extensions.specs.Extensions.{pairs, padding_answer, pointers_answer, size_at, extent_answer, next_at, extents_answer, start_of}
use Rattle.extensions.specs.Extensions.{count_at, array_at, extents_start, counted_answer, extensions_count, no_extension, pointed_answer, front_answer}
use Rattle.extensions.specs.Extensions.{array_answer, extensions_answer, array_end, extensions_end, walked_to, reached, walk, extension_from, extension_at}
use Rattle.extensions.specs.declared.Extension.{Extension}
use Rattle.extensions.specs.declared.Walked.{Walked}

pub both_true : (a b : Bool) → (a && b) ≡ true → (a ≡ true) × (b ≡ true)
both_true a b e = (and_left a b e, and_right a b e)

-- ---- an answer and an end

pub reached-answer : (r : Result ℕ Refusal) → (reached r).answer ≡ answer_number r
reached-answer (Ok to) = refl
reached-answer (Err why) = refl

pub walked_stop : (why : Refusal) (n to : ℕ) → refusal_number why ≡ n → ◌≡◌ {A = Walked} (record { answer = refusal_number why; to = 0 }) (walked_to n to)
walked_stop why n to e = rw (ne_eqb n 0 (refusal-some why e)) (λ u. record { answer = e u; to = 0 })

pub walked-done : {r : ℕ} (n to : ℕ) → n ≡ 0 → r ≡ to → ◌≡◌ {A = Walked} (record { answer = 0; to = r }) (walked_to n to)
walked-done {r} n to e h = rw (e, h)

pub walked-answer : (n to : ℕ) → (walked_to n to).answer ≡ n
walked-answer n to = by-test (λ (x : Walked). x.answer ≡ n) (eqb n 0) _ _ (λ e. sym (eqb-true _ _ e)) (λ e. refl)

pub walked_to_lem : (n to : ℕ) → n ≡ 0 → (walked_to n to).to ≡ to
walked_to_lem n to e = rw e

-- ---- pointers

pub pointers-none : (s : List ℕ) (at n : ℕ) → n ≡ 0 → pointers_answer s at n ≡ 0
unfolding pointers_answer
pointers-none s at n e = rw e

module _ (s : List ℕ) (at n : ℕ) (h : 0 < n) where
  pub pointers-short : leb (at + 4) (length s) ≡ false → pointers_answer s at n ≡ 13
  unfolding pointers_answer order
  pointers-short e =
      let k : n ≡ suc (n - 1) = omega arith in
      rw (k, e)

  module _ (room : leb (at + 4) (length s) ≡ true) where
    pub pointers-null : field s at 4 ≡ 0 → pointers_answer s at n ≡ 14
    unfolding pointers_answer order
    pointers-null z =
        let k : n ≡ suc (n - 1) = omega arith in
        rw (k, room, z)

    pub pointers-more : (field s at 4 ≡ 0 → ⊥) → pointers_answer s at n ≡ pointers_answer s (at + 4) (n - 1)
    unfolding pointers_answer order
    pointers-more z =
        let k : n ≡ suc (n - 1) = omega arith in
        ap (pointers_answer s at) k ∙ (rw (room, ne_eqb (field s at 4) 0 z) (last_row (pointers_answer s (at + 4) (n - 1))))

-- the pointers lie within the bytes
pub pointers-room : (s : List ℕ) (at n : ℕ) → at ≤ length s → pointers_answer s at n ≡ 0 → at + 4 * n ≤ length s
unfolding pointers_answer
pointers-room s at zero h e = omega arith
pointers-room s at (suc n) h e =
    let a = passed (not (leb (at + 4) (length s))) 13 _ (omega arith) e in
    let l : at + 4 ≤ length s = leb-true _ _ (not-false _ a.0) in
    let b = passed (eqb (field s at 4) 0) 14 _ (omega arith) a.1 in
    let r = pointers-room s (at + 4) n l (passed_on _ _ b.1).0 in
    omega arith

-- ---- extensions

pub extents-none : (s : List ℕ) (at n : ℕ) → n ≡ 0 → (extents_answer s at n ≡ 0) × (start_of s at n ≡ at)
unfolding extents_answer start_of
extents-none s at n e = (rw e, rw e)

pub start_none : (s : List ℕ) (at n : ℕ) → n ≡ 0 → start_of s at n ≡ at
start_none s at n e = (extents-none s at n e).1

module _ (s : List ℕ) (at n : ℕ) (h : 0 < n) where
  pub extents-stop : (extent_answer s at ≡ 0 → ⊥) → extents_answer s at n ≡ extent_answer s at
  unfolding extents_answer order
  extents-stop z =
      let k : n ≡ suc (n - 1) = omega arith in
      rw (k, ne_eqb (extent_answer s at) 0 z)

  pub extents-more : extent_answer s at ≡ 0 → extents_answer s at n ≡ extents_answer s (next_at s at) (n - 1)
  unfolding extents_answer order
  extents-more z =
      let k : n ≡ suc (n - 1) = omega arith in
      ap (extents_answer s at) k ∙ (rw (eq-eqb (extent_answer s at) 0 z) (last_row (extents_answer s (next_at s at) (n - 1))))

  pub start-more : start_of s at n ≡ start_of s (next_at s at) (n - 1)
  unfolding start_of
  start-more =
      let k : n ≡ suc (n - 1) = omega arith in
      ap (start_of s at) k

-- ---- one extension

module _ (s : List ℕ) (at : ℕ) where
  pub extent-short : leb (at + 24) (length s) ≡ false → extent_answer s at ≡ 13
  unfolding extent_answer order
  extent-short e = rw e

  module _ (fixed : leb (at + 24) (length s) ≡ true) where
    pub extent-sizes : (field s at 4 ≡ rounded (size_at s at) → ⊥) → extent_answer s at ≡ 14
    unfolding extent_answer order
    extent-sizes e = rw (fixed, ne_eqb _ _ e)

    module _ (sizes : field s at 4 ≡ rounded (size_at s at)) where
      pub extent-cut : leb (at + 24 + size_at s at) (length s) ≡ false → extent_answer s at ≡ 13
      unfolding extent_answer order
      extent-cut e = rw (fixed, eq-eqb _ _ sizes, e)

      pub extent-rest : leb (at + 24 + size_at s at) (length s) ≡ true → extent_answer s at ≡ padding_answer s (at + 24 + size_at s at) (rounded (size_at s at) - size_at s at)
      unfolding extent_answer order
      extent-rest e = rw (fixed, eq-eqb _ _ sizes, e) (last_row _)

-- ---- what an answer 0 of an extension says

pub record Held (s : List ℕ) (at : ℕ) : Type 0 where
  pub fixed : at + 24 ≤ length s
  pub sizes : field s at 4 ≡ rounded (size_at s at)
  pub room : next_at s at ≤ length s
  pub clear : all_zero (take (rounded (size_at s at) - size_at s at) (drop (at + 24 + size_at s at) s)) ≡ true

pub held : (s : List ℕ) (at : ℕ) → extent_answer s at ≡ 0 → Held s at
unfolding extent_answer padding_answer
held s at done =
    let a = passed (not (leb (at + 24) (length s))) 13 _ (omega arith) done in
    let b = passed (differ (field s at 4) (rounded (size_at s at))) 14 _ (omega arith) a.1 in
    let d = passed (not (leb (at + 24 + size_at s at) (length s))) 13 _ (omega arith) b.1 in
    let e = passed_on _ _ d.1 in
    let f = passed (not (leb (at + 24 + size_at s at + (rounded (size_at s at) - size_at s at)) (length s))) 13 _ (omega arith) e.0 in
    let g = passed (not (all_zero (take (rounded (size_at s at) - size_at s at) (drop (at + 24 + size_at s at) s)))) 14 _ (omega arith) f.1 in
    let q : at + 24 + size_at s at + (rounded (size_at s at) - size_at s at) ≤ length s = leb-true _ _ (not-false _ f.0) in
    record {
      fixed = leb-true _ _ (not-false _ a.0);
      sizes = differ-false _ _ b.0;
      room = omega arith;
      clear = not-false _ g.0;
    }

-- ---- the rounded count and the pointers

module _ (s : List ℕ) (at n : ℕ) where
  pub counted-short : leb (at + 4) (length s) ≡ false → counted_answer s at n ≡ 13
  unfolding counted_answer order
  counted-short e = rw e

  module _ (room : leb (at + 4) (length s) ≡ true) where
    pub counted-differ : (field s at 4 ≡ pairs n → ⊥) → counted_answer s at n ≡ 14
    unfolding counted_answer order
    counted-differ e = rw (room, ne_eqb _ _ e)

    module _ (same : field s at 4 ≡ pairs n) where
      pub counted-pointers : (pointers_answer s (at + 4) n ≡ 0 → ⊥) → counted_answer s at n ≡ pointers_answer s (at + 4) n
      unfolding counted_answer order
      counted-pointers e = rw (room, eq-eqb _ _ same, ne_eqb _ _ e)

      pub counted-rest : pointers_answer s (at + 4) n ≡ 0 → counted_answer s at n ≡ padding_answer s (at + 4 + 4 * n) (4 * (pairs n - n))
      unfolding counted_answer order
      counted-rest e = rw (room, eq-eqb _ _ same, e) (last_row _)

pub record Counted (s : List ℕ) (at n : ℕ) : Type 0 where
  pub count : at + 4 ≤ length s
  pub same : field s at 4 ≡ pairs n
  pub pointers : pointers_answer s (at + 4) n ≡ 0
  pub room : at + 4 + 4 * pairs n ≤ length s
  pub clear : all_zero (take (4 * (pairs n - n)) (drop (at + 4 + 4 * n) s)) ≡ true

pub counted : (s : List ℕ) (at n : ℕ) → counted_answer s at n ≡ 0 → Counted s at n
unfolding counted_answer padding_answer
counted s at n done =
    let a = passed (not (leb (at + 4) (length s))) 13 _ (omega arith) done in
    let b = passed (differ (field s at 4) (pairs n)) 14 _ (omega arith) a.1 in
    let d = passed_on _ _ b.1 in
    let e = passed_on _ _ d.1 in
    let f = passed (not (leb (at + 4 + 4 * n + 4 * (pairs n - n)) (length s))) 13 _ (omega arith) e.0 in
    let g = passed (not (all_zero (take (4 * (pairs n - n)) (drop (at + 4 + 4 * n) s)))) 14 _ (omega arith) f.1 in
    let q : at + 4 + 4 * n + 4 * (pairs n - n) ≤ length s = leb-true _ _ (not-false _ f.0) in
    record {
      count = leb-true _ _ (not-false _ a.0);
      same = differ-false _ _ b.0;
      pointers = d.0;
      room = omega arith;
      clear = not-false _ g.0;
    }

-- ---- the array

module _ (s : List ℕ) (at : ℕ) where
  pub pointed-stop : (counted_answer s (at + 16) (count_at s at) ≡ 0 → ⊥) → pointed_answer s at ≡ counted_answer s (at + 16) (count_at s at)
  unfolding pointed_answer order
  pointed-stop e = rw (ne_eqb _ _ e)

  pub pointed-rest : counted_answer s (at + 16) (count_at s at) ≡ 0 → pointed_answer s at ≡ extents_answer s (extents_start s at) (count_at s at)
  unfolding pointed_answer order
  pointed-rest e = rw e (last_row _)

  pub array-stop : (front_answer s at ≡ 0 → ⊥) → array_answer s at ≡ front_answer s at
  unfolding array_answer order
  array-stop e = rw (ne_eqb _ _ e)

  module _ (front : front_answer s at ≡ 0) where
    pub array-null : array_at s at ≡ 0 → walked_to (array_answer s at) (array_end s at) ≡ record { answer = 0; to = at + 16 }
    unfolding array_answer array_end order
    array-null e = rw (front, e)

    pub array-rest : (array_at s at ≡ 0 → ⊥) → walked_to (array_answer s at) (array_end s at) ≡ walked_to (pointed_answer s at) (start_of s (extents_start s at) (count_at s at))
    unfolding array_answer array_end order
    array-rest e = rw (front, ne_eqb _ _ e, last_row (pointed_answer s at))

  pub walk-short : leb (at + 4) (length s) ≡ false → walk s at ≡ record { answer = 13; to = 0 }
  unfolding walk extensions_answer order
  walk-short e = rw e

  module _ (room : leb (at + 4) (length s) ≡ true) where
    pub walk-null : field s at 4 ≡ 0 → walk s at ≡ record { answer = 0; to = at + 4 }
    unfolding walk extensions_answer extensions_end order
    walk-null e = rw (room, e)

    pub walk-rest : (field s at 4 ≡ 0 → ⊥) → walk s at ≡ walked_to (array_answer s at) (array_end s at)
    unfolding walk extensions_answer extensions_end order
    walk-rest e = rw (room, ne_eqb _ _ e, last_row (array_answer s at))

-- what an answer 0 of the array's own fields says
pub record Fronted (s : List ℕ) (at : ℕ) : Type 0 where
  pub room : at + 16 ≤ length s
  pub few : count_at s at ≤ 32
  pub reserved : field s (at + 8) 4 ≡ 0
  pub some : array_at s at ≡ 0 → count_at s at ≡ 0

and-false : (a b : Bool) → (a && b) ≡ false → a ≡ true → b ≡ false
and-false true b e h = e
and-false false b e h = absurd (true-false (sym h))

pub fronted : (s : List ℕ) (at : ℕ) → front_answer s at ≡ 0 → Fronted s at
unfolding front_answer
fronted s at done =
    let a = passed (not (leb (at + 8) (length s))) 13 _ (omega arith) done in
    let b = passed (ltb 32 (count_at s at)) 14 _ (omega arith) a.1 in
    let d = passed (not (leb (at + 12) (length s))) 13 _ (omega arith) b.1 in
    let e = passed (differ (field s (at + 8) 4) 0) 14 _ (omega arith) d.1 in
    let f = passed (not (leb (at + 16) (length s))) 13 _ (omega arith) e.1 in
    let g = passed (eqb (array_at s at) 0 && differ (count_at s at) 0) 14 _ (omega arith) f.1 in
    record {
      room = leb-true _ _ (not-false _ f.0);
      few = ltb-false _ _ b.0;
      reserved = differ-false _ _ e.0;
      some = λ z. differ-false _ _ (and-false _ _ g.0 (eq-eqb _ _ z));
    }

-- ---- an accepted header

pub walk-answer : (s : List ℕ) (at : ℕ) → (walk s at).answer ≡ extensions_answer s at
unfolding walk
walk-answer s at = walked-answer _ _

pub record Accepted (s : List ℕ) (at : ℕ) : Type 0 where
  pub room : at + 4 ≤ length s
  pub front : (field s at 4 ≡ 0 → ⊥) → Fronted s at
  pub counted : (field s at 4 ≡ 0 → ⊥) → (array_at s at ≡ 0 → ⊥) → Counted s (at + 16) (count_at s at)
  pub extents : (field s at 4 ≡ 0 → ⊥) → (array_at s at ≡ 0 → ⊥) → extents_answer s (extents_start s at) (count_at s at) ≡ 0

behind : (s : List ℕ) (at : ℕ) → extensions_answer s at ≡ 0 → (field s at 4 ≡ 0 → ⊥) → array_answer s at ≡ 0
unfolding extensions_answer
behind s at done z =
    let a = passed (not (leb (at + 4) (length s))) 13 _ (omega arith) done in
    let b : cond (eqb (field s at 4) 0) 0 (array_answer s at) ≡ 0 = (passed_on _ _ a.1).0 in
    rw (ne_eqb _ _ z) at b

own : (s : List ℕ) (at : ℕ) → array_answer s at ≡ 0 → front_answer s at ≡ 0
unfolding array_answer
own s at done = (passed_on _ _ done).0

pointed : (s : List ℕ) (at : ℕ) → array_answer s at ≡ 0 → (array_at s at ≡ 0 → ⊥) → (counted_answer s (at + 16) (count_at s at) ≡ 0) × (extents_answer s (extents_start s at) (count_at s at) ≡ 0)
unfolding array_answer pointed_answer
pointed s at done y =
    let a = passed_on (front_answer s at) _ done in
    let d : cond (eqb (array_at s at) 0) 0 (pointed_answer s at) ≡ 0 = (passed_on _ _ a.1).0 in
    let b = passed_on (counted_answer s (at + 16) (count_at s at)) _ (rw (ne_eqb _ _ y) at d) in
    (b.0, (passed_on _ _ b.1).0)

within : (s : List ℕ) (at : ℕ) → extensions_answer s at ≡ 0 → at + 4 ≤ length s
unfolding extensions_answer
within s at done = let a = passed (not (leb (at + 4) (length s))) 13 _ (omega arith) done in leb-true _ _ (not-false _ a.0)

pub accepted : (s : List ℕ) (at : ℕ) → extensions_answer s at ≡ 0 → Accepted s at
accepted s at done =
    record {
      room = within s at done;
      front = λ z. fronted s at (own s at (behind s at done z));
      counted = λ z y. counted s (at + 16) (count_at s at) (pointed s at (behind s at done z) y).0;
      extents = λ z y. (pointed s at (behind s at done z) y).1;
    }

-- the first extension, and the others
pub extents-first : (s : List ℕ) (at n : ℕ) → 0 < n → extents_answer s at n ≡ 0 → (extent_answer s at ≡ 0) × (extents_answer s (next_at s at) (n - 1) ≡ 0)
unfolding extents_answer
extents-first s at n h e =
    let k : n ≡ suc (n - 1) = omega arith in
    let a = passed_on (extent_answer s at) _ (sym (ap (extents_answer s at) k) ∙ e) in
    (a.0, (passed_on _ _ a.1).0)

-- extension k lies within the bytes
pub start-held : (s : List ℕ) (at n k : ℕ) → k < n → extents_answer s at n ≡ 0 → extent_answer s (start_of s at k) ≡ 0
unfolding start_of
start-held s at n zero h e = (extents-first s at n (omega arith) e).0
start-held s at n (suc k) h e = start-held s (next_at s at) (n - 1) k (omega arith) (extents-first s at n (omega arith) e).1

pub some-array : (s : List ℕ) (at k : ℕ) → Fronted s at → k < count_at s at → array_at s at ≡ 0 → ⊥
some-array s at k f h z = let e = f.some z in omega arith

pub record Lies (n : ℕ) (x : Extension) : Type 0 where
  pub order : x.from ≤ x.to
  pub end : x.to ≤ n

lies-none : (m n : ℕ) → Lies m (no_extension n)
lies-none m n = record { order = omega arith; end = omega arith }

lies-from : (s : List ℕ) (p at n k : ℕ) → k < n → extents_answer s at n ≡ 0 → Lies (length s) (extension_from s p at k)
unfolding extension_from
lies-from s p at n k h e = let d = held s (start_of s at k) (start-held s at n k h e) in let r = d.room in record { order = omega arith; end = omega arith }

pub lies : (s : List ℕ) (at k : ℕ) → Lies (length s) (extension_at s at k)
unfolding extension_at extensions_count
lies s at k =
    by-test (Lies (length s)) (eqb (extensions_answer s at) 0) _ _
    (λ e.
    let a = accepted s at (eqb-true _ _ e) in
    by-test (λ (n : ℕ). Lies (length s) (cond (ltb k n) (extension_from s (at + 20) (extents_start s at) k) (no_extension 24))) (eqb (field s at 4) 0) 0 (count_at s at)
    (λ z. rw (le-ltb k 0 (omega arith)) (lies-none _ _))
    (λ z.
    let y = eqb-false _ _ z in
    by-test (Lies (length s)) (ltb k (count_at s at)) _ _
    (λ t.
    let q = ltb-true k (count_at s at) t in
    let w = some-array s at k (a.front y) q in
    lies-from s (at + 20) (extents_start s at) (count_at s at) k q (a.extents y w))
    (λ t. lies-none _ _)))
    (λ e. lies-none _ _)
