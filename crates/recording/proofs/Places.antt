-- Sections and records by their places.
use Prim.Native.Nat.{ℕ, zero, suc, ◌+◌, ◌-◌, ◌*◌, ◌≤◌, ◌<◌}
use mathlib.Core.Path.{◌≡◌, refl, sym, ap, ◌∙◌, subst}
use mathlib.Core.Bool.{Bool, true, false, cond, ◌||◌, ◌&&◌, or-true}
use mathlib.Core.List.{List}
use mathlib.Core.Logic.{⊎_elim}
use native.Mathlib.Omega.{arith}
use borrow.Author.Tests.{ne_eqb, lt-ltb, le-ltb, ltb-false}
use lib.ListN.{length, get_or, take, drop, length-drop}
use lib.Seq.{drop-cons, drop-drop, length-take-le}
use lib.Dec.{eqb, ltb}
use Rattle.kinds.proofs.Refusing.{or-false}
use Rattle.lists.specs.Lists.{every}
use Rattle.fields.specs.Fields.{bytes_number, field}
use Rattle.fields.proofs.Fields.{field_in, field-drop}
use Rattle.lists.proofs.Tests.{same_or_not}
use Rattle.recording.specs.Recording.{section_in, behind_section, behind_sections, sections_at, records_in, behind_records, short_section, short_sections, short_records, form_fits, well_formed}
use Rattle.recording.specs.Places.{section_end, ends_from, record_ends, RecordAt}
use Rattle.recording.specs.declared.Ends.{Ends}

-- the count of the section from at
count_at_lem : (s : List ℕ) (at : ℕ) → field (drop at s) 0 8 ≡ field s at 8
count_at_lem s at = let z : at + 0 ≡ at = omega arith in field-drop s at 0 8 (omega arith) ∙ ap (λ (k : ℕ). field s k 8) z

-- ---- the end of a section, by cases

pub end_none : (s : List ℕ) → section_end s 0 ≡ 0
unfolding section_end
end_none s = refl

pub end-cut : (s : List ℕ) (at : ℕ) → length s < at + 8 → section_end s at ≡ 0
unfolding section_end
end-cut s at h =
    let l = length-drop at s in
    rw (lt-ltb (length (drop at s)) 8 (omega arith)) (ap (λ (b : Bool). cond b 0 (at + 8 + field s at 8)) (or-true (eqb at 0)))

pub end-over : (s : List ℕ) (at : ℕ) → at + 8 ≤ length s → length s - at - 8 < field s at 8 → section_end s at ≡ 0
unfolding section_end
end-over s at h k =
    let l = length-drop at s in
    let m = length-drop 8 (drop at s) in
    let c = count_at_lem s at in
    rw (lt-ltb (length (drop 8 (drop at s))) (field (drop at s) 0 8) (omega arith), le-ltb (length (drop at s)) 8 (omega arith))
    (ap (λ (b : Bool). cond b 0 (at + 8 + field s at 8)) (or-true (eqb at 0)))

pub end-here : (s : List ℕ) (at : ℕ) → (at ≡ 0 → ⊥) → at + 8 ≤ length s → field s at 8 ≤ length s - at - 8 → section_end s at ≡ at + 8 + field s at 8
unfolding section_end
end-here s at n h k =
    let l = length-drop at s in
    let m = length-drop 8 (drop at s) in
    let c = count_at_lem s at in
    rw (ne_eqb at 0 n, le-ltb (length (drop 8 (drop at s))) (field (drop at s) 0 8) (omega arith), le-ltb (length (drop at s)) 8 (omega arith))

-- ---- a section that ends

pub record Ended (s : List ℕ) (at r : ℕ) : Type 0 where
  pub after : at + 8 ≤ r
  pub inside : r ≤ length s
  pub whole : short_section (drop at s) ≡ false
  pub read : section_in (drop at s) ≡ take (r - (at + 8)) (drop (at + 8) s)
  pub size : length (section_in (drop at s)) ≡ r - (at + 8)
  pub behind : behind_section (drop at s) ≡ drop r s

pub ended : (s : List ℕ) (at : ℕ) → (section_end s at ≡ 0 → ⊥) → Ended s at (section_end s at)
unfolding section_end
ended s at n = go (eqb at 0 || short_section (drop at s)) refl
  where
    go : (b : Bool) → (eqb at 0 || short_section (drop at s)) ≡ b → Ended s at (section_end s at)
    go true h = absurd (n (ap (λ (b : Bool). cond b 0 (at + 8 + field s at 8)) h))
    go false h =
        let f = or-false (eqb at 0) (short_section (drop at s)) h in
        let g = or-false (ltb (length (drop at s)) 8) (ltb (length (drop 8 (drop at s))) (field (drop at s) 0 8)) f.1 in
        let x = ltb-false (length (drop at s)) 8 g.0 in
        let y = ltb-false (length (drop 8 (drop at s))) (field (drop at s) 0 8) g.1 in
        let l = length-drop at s in
        let m = length-drop 8 (drop at s) in
        let c = count_at_lem s at in
        let e : section_end s at ≡ at + 8 + field s at 8 = ap (λ (b : Bool). cond b 0 (at + 8 + field s at 8)) h in
        let d : drop 8 (drop at s) ≡ drop (at + 8) s = drop-drop 8 at s in
        let q : field (drop at s) 0 8 ≡ section_end s at - (at + 8) = omega arith in
        let z : at + 8 + field (drop at s) 0 8 ≡ section_end s at = omega arith in
        record {
          after = omega arith;
          inside = omega arith;
          whole = f.1;
          read = (λ u. take (q u) (d u));
          size = length-take-le (field (drop at s) 0 8) (drop 8 (drop at s)) y ∙ q;
          behind = let w : at + (8 + field (drop at s) 0 8) ≡ section_end s at = omega arith in rw (drop-drop, drop-drop, w);
        }

pub not-ended : (s : List ℕ) (at : ℕ) → (at ≡ 0 → ⊥) → section_end s at ≡ 0 → short_section (drop at s) ≡ true
unfolding section_end
not-ended s at n z = go (short_section (drop at s)) refl
  where
    go : (b : Bool) → short_section (drop at s) ≡ b → short_section (drop at s) ≡ true
    go true h = h
    go false h =
        let e : section_end s at ≡ at + 8 + field s at 8 = rw (ne_eqb at 0 n) (ap (λ (b : Bool). cond b 0 (at + 8 + field s at 8)) h) in
        absurd (omega arith)

-- ---- sections in a row

pub ends-none : (n : ℕ) (s : List ℕ) → ends_from n s 0 ≡ 0
unfolding ends_from
ends-none zero s = refl
ends-none (suc n) s = ap (ends_from n s) (end_none s) ∙ ends-none n s

-- n sections from at are short where their end is 0; else they end there
pub record Rows (n : ℕ) (s : List ℕ) (at r : ℕ) : Type 0 where
  pub whole : short_sections n (drop at s) ≡ false
  pub behind : behind_sections n (drop at s) ≡ drop r s
  pub after : at ≤ r

pub rows_short : (n : ℕ) (s : List ℕ) (at : ℕ) → (at ≡ 0 → ⊥) → ends_from n s at ≡ 0 → short_sections n (drop at s) ≡ true
unfolding ends_from short_sections
rows_short zero s at h z = absurd (h z)
rows_short (suc n) s at h z =
    ⊎_elim
    (λ e. ap (λ (b : Bool). b || short_sections n (behind_section (drop at s))) (not-ended s at h e))
    (λ k.
    let x = ended s at k in
    ap (λ (b : Bool). short_section (drop at s) || b) (ap (short_sections n) x.behind ∙ rows_short n s (section_end s at) k z) ∙ or-true (short_section (drop at s)))
    (same_or_not (section_end s at) 0)

pub rows-ended : (n : ℕ) (s : List ℕ) (at : ℕ) → (ends_from n s at ≡ 0 → ⊥) → Rows n s at (ends_from n s at)
unfolding ends_from short_sections behind_sections
rows-ended zero s at h = record { whole = refl; behind = refl; after = omega arith }
rows-ended (suc n) s at h =
    let k : section_end s at ≡ 0 → ⊥ = λ e. h (ap (ends_from n s) e ∙ ends-none n s) in
    let x = ended s at k in
    let r = rows-ended n s (section_end s at) h in
    record {
      whole = (λ u. x.whole u || (ap (short_sections n) x.behind ∙ r.whole) u);
      behind = ap (behind_sections n) x.behind ∙ r.behind;
      after = (let a = x.after in let b = r.after in omega arith);
    }

-- ---- a byte

pub byte_at : (s : List ℕ) (at : ℕ) → at < length s → field s at 1 ≡ get_or s at 0
unfolding bytes_number
byte_at s at h =
    field_in s at 1 (omega arith)
    ∙ ap (λ (l : List ℕ). bytes_number (take 1 l)) (drop-cons s at 0 h)
    ∙ (let z : get_or s at 0 + 256 * 0 ≡ get_or s at 0 = omega arith in z)

-- ---- the record from at

-- its sections, one after the other
pub record Parts (s : List ℕ) (at : ℕ) (e : Ends) : Type 0 where
  pub call : Ended s at e.call
  pub first : Ended s e.call e.first
  pub second : Ended s e.first e.second
  pub answer : Ended s e.second e.answer
  pub shown : Ended s e.answer e.shown

-- where the last end is not 0, none is
ends-before : (n : ℕ) (s : List ℕ) (at : ℕ) → (ends_from (suc n) s at ≡ 0 → ⊥) → section_end s at ≡ 0 → ⊥
unfolding ends_from
ends-before n s at h z = h (ap (ends_from n s) z ∙ ends-none n s)

parts-of : (s : List ℕ) (at : ℕ) → (ends_from 5 s at ≡ 0 → ⊥) → Parts s at (record_ends s at)
unfolding ends_from
parts-of s at h =
    record {
      call = ended s at (ends-before 4 s at h);
      first = ended s (ends_from 1 s at) (ends-before 3 s (ends_from 1 s at) h);
      second = ended s (ends_from 2 s at) (ends-before 2 s (ends_from 2 s at) h);
      answer = ended s (ends_from 3 s at) (ends-before 1 s (ends_from 3 s at) h);
      shown = ended s (ends_from 4 s at) (ends-before 0 s (ends_from 4 s at) h);
    }

pub parts : {s : List ℕ} {at : ℕ} {e : Ends} → RecordAt s at e → Parts s at e
parts {s} {at} {e} r = subst (λ (x : Ends). Parts s at x) (sym r.ends) (parts-of s at (λ z. r.whole (ap (λ (x : Ends). x.shown) r.ends ∙ z)))

less-in-turn : (a b : ℕ) → a - (b + 8) ≡ a - b - 8
less-in-turn a b = omega arith

-- the sections as they are read
module _ (s : List ℕ) (at : ℕ) (e : Ends) (p : Parts s at e) where
  one-behind : behind_sections 1 (drop at s) ≡ drop e.call s
  unfolding behind_sections
  one-behind = p.call.behind

  two-behind : behind_sections 2 (drop at s) ≡ drop e.first s
  unfolding behind_sections
  two-behind = ap behind_section p.call.behind ∙ p.first.behind

  three-behind : behind_sections 3 (drop at s) ≡ drop e.second s
  unfolding behind_sections
  three-behind = ap behind_section (ap behind_section p.call.behind ∙ p.first.behind) ∙ p.second.behind

  -- whether it is well formed, by its places
  pub fits-by-places : well_formed (sections_at (drop at s))
      ≡ form_fits (take (e.call - (at + 8)) (drop (at + 8) s)) (e.first - e.call - 8) (e.second - e.first - 8) (e.answer - e.second - 8)
  unfolding sections_at
  fits-by-places =
      let a : length (section_in (behind_sections 1 (drop at s))) ≡ e.first - e.call - 8 =
      ap (λ (l : List ℕ). length (section_in l)) one-behind ∙ p.first.size ∙ less-in-turn e.first e.call in
      let b : length (section_in (behind_sections 2 (drop at s))) ≡ e.second - e.first - 8 =
      ap (λ (l : List ℕ). length (section_in l)) two-behind ∙ p.second.size ∙ less-in-turn e.second e.first in
      let c : length (section_in (behind_sections 3 (drop at s))) ≡ e.answer - e.second - 8 =
      ap (λ (l : List ℕ). length (section_in l)) three-behind ∙ p.answer.size ∙ less-in-turn e.answer e.second in
      λ u. form_fits (p.call.read u) (a u) (b u) (c u)

-- ---- records in a row

module _ (s : List ℕ) (at k : ℕ) where
  -- the first of them is short
  pub records-short : (at ≡ 0 → ⊥) → ends_from 5 s at ≡ 0 → short_records (suc k) (drop at s) ≡ true
  unfolding short_records
  records-short h z = ap (λ (b : Bool). b || short_records k (behind_sections 5 (drop at s))) (rows_short 5 s at h z)

  module _ (h : ends_from 5 s at ≡ 0 → ⊥) where
    pub records-past : short_records (suc k) (drop at s) ≡ short_records k (drop (ends_from 5 s at) s)
    unfolding short_records
    records-past = let r = rows-ended 5 s at h in λ u. r.whole u || short_records k (r.behind u)

    pub records-fit : every well_formed (records_in (suc k) (drop at s)) ≡ (well_formed (sections_at (drop at s)) && every well_formed (records_in k (drop (ends_from 5 s at) s)))
    unfolding records_in every
    records-fit = let r = rows-ended 5 s at h in λ u. well_formed (sections_at (drop at s)) && every well_formed (records_in k (r.behind u))

    pub records-left : behind_records (suc k) (drop at s) ≡ behind_records k (drop (ends_from 5 s at) s)
    unfolding behind_records
    records-left = ap (behind_records k) (rows-ended 5 s at h).behind

    pub records-after : at ≤ ends_from 5 s at
    records-after = (rows-ended 5 s at h).after

    pub records-inside : ends_from 5 s at ≤ length s
    records-inside = (parts-of s at h).shown.inside
