-- The records that are left, from a place on, and all of them.
use Prim.Native.Nat.{ℕ, suc, ◌-◌, ◌<◌, ◌≤◌}
use mathlib.Core.Path.{◌≡◌, refl, sym, ap, ◌∙◌}
use mathlib.Core.Bool.{Bool, true, false, not, ◌&&◌, ◌||◌, and-true, and_assoc, or-true}
use mathlib.Core.List.{List, [], ◌∷◌}
use native.Mathlib.Omega.{arith}
use borrow.Author.Tests.{eq-eqb, ne_eqb, lt-ltb, le-ltb}
use lib.ListN.{length, drop, length-drop}
use lib.Dec.{eqb, ltb}
use Rattle.kinds.specs.Refusals.{◌gives◌, order}
use Rattle.lists.specs.Lists.{every}
use Rattle.recording.specs.Recording.{sections_at, records_in, behind_records, short_records, well_formed, count_of, is_short, is_broken, most_records, recording_answer}
use Rattle.recording.specs.Places.{ends_from, record_ends, RecordAt, Walked}
use Rattle.recording.specs.declared.Ends.{Ends}
use Rattle.recording.specs.declared.Passed.{Passed}
use Rattle.recording.proofs.Places.{records-short, records-past, records-fit, records-left, records-after, records-inside}

pub record Rest (s : List ℕ) (n at : ℕ) (fits : Bool) (left : ℕ) : Type 0 where
  pub from : 8 ≤ at
  pub inside : at ≤ length s
  pub short : short_records left (drop at s) ≡ short_records n (drop 8 s)
  pub fit : (fits && every well_formed (records_in left (drop at s))) ≡ every well_formed (records_in n (drop 8 s))
  pub behind : behind_records left (drop at s) ≡ behind_records n (drop 8 s)

pub rest-start : (s : List ℕ) (n : ℕ) → 8 ≤ length s → (left : ℕ) → left ≡ n → Rest s n 8 true left
rest-start s n h left e =
    let d : List ℕ = drop 8 s in
    record { from = omega arith; inside = h; short = ap (λ k. short_records k d) e; fit = ap (λ k. every well_formed (records_in k d)) e; behind = ap (λ k. behind_records k d) e }

past-zero : (at : ℕ) → 8 ≤ at → at ≡ 0 → ⊥
past-zero at h z = omega arith

module _ (s : List ℕ) (n at : ℕ) (fits : Bool) (left : ℕ) (r : Rest s n at fits left) where
  -- the next record is there
  pub record-at : (e : Ends) → e ≡ record_ends s at → (e.shown ≡ 0 → ⊥) → RecordAt s at e
  record-at e q h = record { past = past-zero at r.from; ends = q; whole = h }

  one_more : 0 < left → left ≡ suc (left - 1)
  one_more h = omega arith

  -- it is short
  pub rest-short : 0 < left → (e : Ends) → e ≡ record_ends s at → e.shown ≡ 0 → short_records n (drop 8 s) ≡ true
  rest-short h e q z =
      let y : ends_from 5 s at ≡ 0 = sym (ap (λ (x : Ends). x.shown) q) ∙ z in
      sym r.short ∙ ap (λ (k : ℕ). short_records k (drop at s)) (one_more h) ∙ records-short s at (left - 1) (past-zero at r.from) y

  -- it is passed
  pub rest-step : 0 < left → (e : Ends) → e ≡ record_ends s at → (e.shown ≡ 0 → ⊥) → (one : Bool) → one ≡ well_formed (sections_at (drop at s)) → (less : ℕ) → less ≡ left - 1
      → Rest s n e.shown (fits && one) less
  rest-step h e p z one w less d =
      let q : e.shown ≡ ends_from 5 s at = ap (λ (x : Ends). x.shown) p in
      let y : ends_from 5 s at ≡ 0 → ⊥ = λ x. z (q ∙ x) in
      let a = records-after s at (left - 1) y in
      let i = records-inside s at (left - 1) y in
      let f = r.from in
      let m : left ≡ suc (left - 1) = one_more h in
      let rest : Bool = every well_formed (records_in (left - 1) (drop (ends_from 5 s at) s)) in
      record {
        from = omega arith;
        inside = omega arith;
        short = (λ u. short_records (d u) (drop (q u) s)) ∙ sym (records-past s at (left - 1) y) ∙ ap (λ (k : ℕ). short_records k (drop at s)) (sym m) ∙ r.short;
        fit =
            (λ u. (fits && one) && every well_formed (records_in (d u) (drop (q u) s)))
            ∙ and_assoc fits one rest
            ∙ ap (λ (x : Bool). fits && (x && rest)) w
            ∙ ap (λ (x : Bool). fits && x) (sym (records-fit s at (left - 1) y) ∙ ap (λ (k : ℕ). every well_formed (records_in k (drop at s))) (sym m))
            ∙ r.fit;
        behind = (λ u. behind_records (d u) (drop (q u) s)) ∙ sym (records-left s at (left - 1) y) ∙ ap (λ (k : ℕ). behind_records k (drop at s)) (sym m) ∙ r.behind;
      }

  -- none is left
  pub rest_end : left ≤ 0 → Walked s n (record { end = at; fits = fits })
  unfolding short_records records_in behind_records every
  rest_end h =
      let z : left ≡ 0 = omega arith in
      record {
        whole = sym r.short ∙ ap (λ (k : ℕ). short_records k (drop at s)) z;
        fits = sym (and-true fits) ∙ (sym (sym r.fit ∙ ap (λ (k : ℕ). fits && every well_formed (records_in k (drop at s))) z));
        left = sym r.behind ∙ ap (λ (k : ℕ). behind_records k (drop at s)) z;
        inside = r.inside;
      }

-- ---- the answer

-- by its three tests
answer-by : (s : List ℕ) (a b c : Bool) → is_short s ≡ a → is_broken s ≡ b → ltb most_records (count_of s) ≡ c
    → order (a gives 13 ∷ b gives 14 ∷ c gives 10 ∷ []) ≡ recording_answer s
unfolding recording_answer
answer-by s a b c p q r u = order (sym p u gives 13 ∷ sym q u gives 14 ∷ sym r u gives 10 ∷ [])

short-answer : (s : List ℕ) → is_short s ≡ true → 13 ≡ recording_answer s
unfolding order
short-answer s p = answer-by s true (is_broken s) (ltb most_records (count_of s)) p refl refl

broken-answer : (s : List ℕ) → is_short s ≡ false → is_broken s ≡ true → 14 ≡ recording_answer s
unfolding order
broken-answer s p q = answer-by s false true (ltb most_records (count_of s)) p q refl

pub no-count : (s : List ℕ) → length s < 8 → 13 ≡ recording_answer s
unfolding is_short
no-count s h = short-answer s (ap (λ (b : Bool). b || short_records (count_of s) (drop 8 s)) (lt-ltb (length s) 8 h))

module _ (s : List ℕ) (n : ℕ) (h : 8 ≤ length s) (e : n ≡ count_of s) where
  shortness : is_short s ≡ short_records n (drop 8 s)
  unfolding is_short
  shortness = ap (λ (b : Bool). b || short_records (count_of s) (drop 8 s)) (le-ltb (length s) 8 h) ∙ ap (λ (k : ℕ). short_records k (drop 8 s)) (sym e)

  pub short-walk : short_records n (drop 8 s) ≡ true → 13 ≡ recording_answer s
  short-walk z = short-answer s (shortness ∙ z)

  module _ (r : Passed) (w : Walked s n r) where
    not_short : is_short s ≡ false
    not_short = shortness ∙ w.whole

    brokenness : is_broken s ≡ (not r.fits || not (eqb (length (drop r.end s)) 0))
    unfolding is_broken
    brokenness =
        (λ u. not (every well_formed (records_in (sym e u) (drop 8 s))) || not (eqb (length (behind_records (sym e u) (drop 8 s))) 0))
        ∙ (λ u. not (sym w.fits u) || not (eqb (length (w.left u)) 0))

    pub unfit-walk : not r.fits ≡ true → 14 ≡ recording_answer s
    unfit-walk f = broken-answer s not_short (brokenness ∙ ap (λ (b : Bool). b || not (eqb (length (drop r.end s)) 0)) f)

    pub left-walk : (r.end ≡ length s → ⊥) → 14 ≡ recording_answer s
    left-walk d =
        let l = length-drop r.end s in
        let i = w.inside in
        let k : eqb (length (drop r.end s)) 0 ≡ false = ne_eqb (length (drop r.end s)) 0 (λ (q : length (drop r.end s) ≡ 0). d (omega arith)) in
        broken-answer s not_short (brokenness ∙ ap (λ (b : Bool). not r.fits || not b) k ∙ or-true (not r.fits))

    module _ (f : not r.fits ≡ false) (d : r.end ≡ length s) where
      not-broken : is_broken s ≡ false
      not-broken =
          let l = length-drop r.end s in
          let k : eqb (length (drop r.end s)) 0 ≡ true = eq-eqb (length (drop r.end s)) 0 (omega arith) in
          brokenness ∙ (λ u. f u || not (k u))

      pub many-walk : most_records < n → 10 ≡ recording_answer s
      unfolding order
      many-walk g = answer-by s false false true not_short not-broken (ap (λ (k : ℕ). ltb most_records k) (sym e) ∙ lt-ltb most_records n g)

      pub done-walk : n ≤ most_records → 0 ≡ recording_answer s
      unfolding order
      done-walk g = answer-by s false false false not_short not-broken (ap (λ (k : ℕ). ltb most_records k) (sym e) ∙ le-ltb most_records n g)
