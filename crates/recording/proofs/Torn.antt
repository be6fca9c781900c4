-- The records of a recording whose last write was torn.
use Prim.Native.Nat.{ℕ, zero, suc, ◌+◌, ◌-◌, ◌^◌, ◌<◌, ◌≤◌}
use mathlib.Core.Path.{◌≡◌, refl, sym, ap, ◌∙◌}
use mathlib.Core.Bool.{Bool, true, false, not, ◌||◌, or-true}
use mathlib.Core.List.Memᴰ
use mathlib.Core.List.{List, [], ◌∷◌, ◌++◌, append_assoc}
use mathlib.Core.Logic.{⊎_elim}
use native.Mathlib.Omega.{arith}
use borrow.Author.Tests.{lt-ltb}
use lib.ListN.{length, take, drop, length-append, length-drop, length-replicate, replicate-append-replicate}
use lib.Seq.{take_at, drop_at, take-append-add, length-take-le}
use lib.Dec.{ltb}
use Rattle.fields.specs.Fields.{encode, field, zeros}
use Rattle.fields.proofs.Fields.{length-encode, encode-zeros}
use Rattle.lists.specs.Lists.{holding}
use Rattle.lists.proofs.Tests.{below_or_not}
use Rattle.rules.specs.Snapshot.{in_row}
use Rattle.rules.specs.Swapping.{Each}
use Rattle.rules.proofs.SnapshotReading.{encoded-front}
use Rattle.recording.specs.Recording.{Recorded, Sections, section, sections_bytes, sections_in, record_bytes, recording_bytes, behind_section, behind_records}
use Rattle.recording.specs.Recording.{sections_at, section_in, short_section, short_sections, forms, form_of, form_fits, well_formed, most_records}
use Rattle.recording.specs.Statements.{Tells}
use Rattle.recording.specs.Whole.{whole_records, Passes}
use Rattle.recording.specs.Torn.{none_whole, journal, Kept, KeepsWritten, CutIsTorn, ZerosAreTorn}
use Rattle.recording.specs.declared.Prefix.{Prefix}
use Rattle.recording.proofs.Framing.{Countable, section-behind, record-read, rows-read}
use Rattle.recording.proofs.ReadingBack.{countable, well-formed}
use Rattle.recording.proofs.Passing.{none-whole, one-whole}

-- ---- how many are found

none-asked : (s : List ℕ) → whole_records 0 s ≡ 0
unfolding whole_records
none-asked s = refl

whole-written : (n : ℕ) (rs : List Recorded) (torn : List ℕ) → Each Tells rs → length rs ≤ n → none_whole torn ≡ true
    → whole_records n (in_row record_bytes rs ++ torn) ≡ length rs
unfolding in_row
whole-written zero [] torn t h z = none-asked torn
whole-written (suc n) [] torn t h z = none-whole n torn z
whole-written zero (r ∷ rs) torn t h z = absurd (omega arith)
whole-written (suc n) (r ∷ rs) torn t h z =
    let rest : List ℕ = in_row record_bytes rs ++ torn in
    let a : in_row record_bytes (r ∷ rs) ++ torn ≡ record_bytes r ++ rest = append_assoc (record_bytes r) (in_row record_bytes rs) torn in
    let y = t r (Memᴰ.head refl) in
    let x = record-read (sections_in r) rest (countable r y) in
    let f : none_whole (record_bytes r ++ rest) ≡ false = (λ u. x.whole u || not (well_formed (x.sections u))) ∙ ap not (well-formed r y) in
    ap (whole_records (suc n)) a
    ∙ one-whole n (record_bytes r ++ rest) f
    ∙ ap suc (ap (whole_records n) x.behind ∙ whole-written n rs torn (λ q m. t q (Memᴰ.tail m)) (omega arith) z)

-- ---- which bytes

module _ (rs : List Recorded) (front torn : List ℕ) (r : Prefix) (t : Each Tells rs) (h : length rs ≤ most_records) (l : length front ≡ 8)
    (z : none_whole torn ≡ true) (p : Passes (journal front rs torn) r) where
  abbrev rows : List ℕ
  rows = in_row record_bytes rs

  past-front : drop 8 (journal front rs torn) ≡ rows ++ torn
  past-front = drop_at front (rows ++ torn) 8 l

  counted : r.count ≡ length rs
  counted = p.count ∙ ap (whole_records most_records) past-front ∙ whole-written most_records rs torn t h z

  left : drop r.end (journal front rs torn) ≡ torn
  left = sym p.behind ∙ (λ u. behind_records (counted u) (past-front u)) ∙ (rows-read rs torn (λ q m. countable q (t q m))).behind

  ended : r.end - 8 ≡ length rows
  ended =
      let a = length-append front (rows ++ torn) in
      let b = length-append rows torn in
      let c = length-drop r.end (journal front rs torn) in
      let d : length (drop r.end (journal front rs torn)) ≡ length torn = ap length left in
      let i = p.inside in
      omega arith

  kept : Kept (journal front rs torn) rs r
  unfolding recording_bytes
  kept =
      record {
        count = counted;
        bytes =
            (λ u. encode 8 (counted u) ++ take (ended u) (past-front u)) ∙ ap (λ (s : List ℕ). encode 8 (length rs) ++ s) (take_at rows torn (length rows) refl);
      }

pub keeps-written : KeepsWritten
keeps-written = kept

-- ---- a record that was cut

module _ (b rest : List ℕ) (k : ℕ) (w : length b < 2 ^ 64) (h : k < length (section b ++ rest)) where
  abbrev cut : List ℕ
  cut = take k (section b ++ rest)

  -- within its count
  in_count : k < 8 → short_section cut ≡ true
  in_count i =
      let l = length-take-le k (section b ++ rest) (omega arith) in
      ap (λ (x : Bool). x || ltb (length (drop 8 cut)) (field cut 0 8)) (lt-ltb (length cut) 8 (omega arith))

  size : length (section b ++ rest) ≡ 8 + (length b + length rest)
  unfolding section
  size =
      let a = length-append (section b) rest in
      let c = length-append (encode 8 (length b)) b in
      let d = length-encode 8 (length b) in
      omega arith

  -- within its bytes
  in_bytes : 8 ≤ k → k < 8 + length b → short_section cut ≡ true
  unfolding section
  in_bytes i j =
      let n : List ℕ = encode 8 (length b) in
      let y : List ℕ = take (k - 8) (b ++ rest) in
      let e : length n ≡ 8 = length-encode 8 (length b) in
      let m : k ≡ length n + (k - 8) = omega arith in
      let c : cut ≡ n ++ y = ap (take k) (append_assoc n b rest) ∙ ap (λ (x : ℕ). take x (n ++ (b ++ rest))) m ∙ take-append-add n (b ++ rest) (k - 8) in
      let f : field cut 0 8 ≡ length b = ap (λ (s : List ℕ). field s 0 8) c ∙ encoded-front 8 (length b) y w in
      let d : drop 8 cut ≡ y = ap (drop 8) c ∙ drop_at n y 8 e in
      let a = length-append b rest in
      let g : length (drop 8 cut) ≡ k - 8 = ap length d ∙ length-take-le (k - 8) (b ++ rest) (omega arith) in
      ap (λ (x : Bool). ltb (length cut) 8 || x) (lt-ltb (length (drop 8 cut)) (field cut 0 8) (omega arith)) ∙ or-true (ltb (length cut) 8)

  -- behind them
  past_bytes : 8 + length b ≤ k → behind_section cut ≡ take (k - (8 + length b)) rest
  unfolding section
  past_bytes i =
      let m : ℕ = k - (8 + length b) in
      let c = length-append (encode 8 (length b)) b in
      let d = length-encode 8 (length b) in
      let e : k ≡ length (section b) + m = omega arith in
      ap behind_section (ap (λ (x : ℕ). take x (section b ++ rest)) e ∙ take-append-add (section b) rest m) ∙ section-behind b (take m rest) w

cut_short : (bs : List (List ℕ)) (k : ℕ) → Each (λ (b : List ℕ). length b < 2 ^ 64) bs → k < length (in_row section bs) → short_sections (length bs) (take k (in_row section bs)) ≡ true
unfolding in_row short_sections
cut_short [] k w h = absurd (omega arith)
cut_short (b ∷ bs) k w h =
    let rest : List ℕ = in_row section bs in
    let y = w b (Memᴰ.head refl) in
    let first : short_section (take k (section b ++ rest)) ≡ true → short_sections (length (b ∷ bs)) (take k (in_row section (b ∷ bs))) ≡ true =
    λ q. ap (λ (x : Bool). x || short_sections (length bs) (behind_section (take k (section b ++ rest)))) q in
    let size-here = size b rest k y h in
    ⊎_elim
    (λ i. first (in_count b rest k y h i))
    (λ i.
    ⊎_elim
    (λ j. first (in_bytes b rest k y h i j))
    (λ j.
    ap (λ (x : Bool). short_section (take k (section b ++ rest)) || x)
    (ap (short_sections (length bs)) (past_bytes b rest k y h j) ∙ cut_short bs (k - (8 + length b)) (λ q m. w q (Memᴰ.tail m)) (omega arith))
    ∙ or-true (short_section (take k (section b ++ rest))))
    (below_or_not k (8 + length b)))
    (below_or_not k 8)

abbrev Short : List ℕ → Type 0
Short b = length b < 2 ^ 64

each_none : Each Short []
each_none b m = absurd (Memᴰ.not-nil m)

each_more : (b : List ℕ) (bs : List (List ℕ)) → Short b → Each Short bs → Each Short (b ∷ bs)
each_more b bs p q c (Memᴰ.head e) = rw e p
each_more b bs p q c (Memᴰ.tail m) = q c m

each-countable : (x : Sections) → Countable x → Each Short (x.call ∷ x.first ∷ x.second ∷ x.answer ∷ x.shown ∷ [])
each-countable x c =
    each_more _ _ c.call (each_more _ _ c.first (each_more _ _ c.second (each_more _ _ c.answer (each_more _ _ c.shown each_none))))

pub cut-is-torn : CutIsTorn
unfolding sections_bytes
cut-is-torn r k t h =
    let x : Sections = sections_in r in
    ap (λ (b : Bool). b || not (well_formed (sections_at (take k (record_bytes r)))))
    (cut_short (x.call ∷ x.first ∷ x.second ∷ x.answer ∷ x.shown ∷ []) k (each-countable x (countable r t)) h)

-- ---- zeros

-- a call without a code is of no form
no_code : (a b c : ℕ) → form_fits [] a b c ≡ false
unfolding form_fits form_of forms holding field
no_code a b c = refl

-- zeros tell of a call of no bytes
no_call : (n : ℕ) → 8 ≤ n → section_in (zeros n) ≡ []
no_call n h =
    let m : 8 + (n - 8) ≡ n = omega arith in
    let z : encode 8 0 ++ zeros (n - 8) ≡ zeros n =
    ap (λ (s : List ℕ). s ++ zeros (n - 8)) (encode-zeros 8) ∙ replicate-append-replicate 8 (n - 8) 0 ∙ ap zeros m in
    let f : field (zeros n) 0 8 ≡ 0 = sym (ap (λ (s : List ℕ). field s 0 8) z) ∙ encoded-front 8 0 (zeros (n - 8)) (omega arith) in
    ap (λ (k : ℕ). take k (drop 8 (zeros n))) f

zeros-unfit : (n : ℕ) → 8 ≤ n → well_formed (sections_at (zeros n)) ≡ false
unfolding sections_at
zeros-unfit n h =
    let x : Sections = sections_at (zeros n) in
    let a : ℕ = length x.first in
    let b : ℕ = length x.second in
    let c : ℕ = length x.answer in
    ap (λ (s : List ℕ). form_fits s a b c) (no_call n h) ∙ no_code a b c

zeros-short : (n : ℕ) → n < 8 → short_sections 5 (zeros n) ≡ true
unfolding short_sections
zeros-short n h =
    let l : length (zeros n) ≡ n = length-replicate {A = ℕ} n 0 in
    let s : List ℕ = zeros n in
    ap (λ (x : Bool). (x || ltb (length (drop 8 s)) (field s 0 8)) || short_sections 4 (behind_section s)) (lt-ltb (length s) 8 (omega arith))

pub zeros-are-torn : ZerosAreTorn
zeros-are-torn n =
    ⊎_elim
    (λ h. ap (λ (b : Bool). b || not (well_formed (sections_at (zeros n)))) (zeros-short n h))
    (λ h. ap (λ (b : Bool). short_sections 5 (zeros n) || not b) (zeros-unfit n h) ∙ or-true (short_sections 5 (zeros n)))
    (below_or_not n 8)
