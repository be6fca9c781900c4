-- The sections and records of a recording, read back as they were written.
use Prim.Native.Nat.{ℕ, ◌+◌, ◌^◌, ◌<◌}
use mathlib.Core.Path.{◌≡◌, refl, sym, ap, ◌∙◌}
use mathlib.Core.Bool.{false, ◌||◌}
use mathlib.Core.List.Memᴰ
use mathlib.Core.List.{List, [], ◌∷◌, ◌++◌, map, append_assoc, append-nil}
use native.Mathlib.Omega.{arith}
use borrow.Author.Tests.{le-ltb}
use lib.ListN.{length, take, drop, length-append}
use lib.Seq.{take_at, drop_at}
use Rattle.fields.specs.Fields.{encode, field}
use Rattle.fields.proofs.Fields.{length-encode}
use Rattle.rules.specs.Snapshot.{in_row}
use Rattle.rules.specs.Swapping.{Each}
use Rattle.rules.proofs.SnapshotReading.{encoded-front}
use Rattle.recording.specs.Recording.{Recorded, Sections, section, sections_bytes, sections_in, record_bytes, recording_bytes, section_in, behind_section, behind_sections}
use Rattle.recording.specs.Recording.{sections_at, records_in, behind_records, count_of, sections_of, left_over, short_section, short_sections, short_records, is_short}

-- ---- one section at the front of bytes

module _ (b rest : List ℕ) (w : length b < 2 ^ 64) where
  abbrev bytes : List ℕ
  bytes = section b ++ rest

  counted : field bytes 0 8 ≡ length b
  unfolding section
  counted = ap (λ (s : List ℕ). field s 0 8) (append_assoc (encode 8 (length b)) b rest) ∙ encoded-front 8 (length b) (b ++ rest) w

  past-count : drop 8 bytes ≡ b ++ rest
  unfolding section
  past-count = ap (drop 8) (append_assoc (encode 8 (length b)) b rest) ∙ drop_at (encode 8 (length b)) (b ++ rest) 8 (length-encode 8 (length b))

  pub section-read : section_in bytes ≡ b
  section-read = (λ u. take (counted u) (past-count u)) ∙ take_at b rest (length b) refl

  pub section-behind : behind_section bytes ≡ rest
  section-behind = (λ u. drop (counted u) (past-count u)) ∙ drop_at b rest (length b) refl

  length-bytes : length bytes ≡ 8 + (length b + length rest)
  unfolding section
  length-bytes =
      let a = length-append (section b) rest in
      let c = length-append (encode 8 (length b)) b in
      let d = length-encode 8 (length b) in
      omega arith

  pub section-whole : short_section bytes ≡ false
  section-whole =
      let a = ap length past-count ∙ length-append b rest in
      let l = length-bytes in
      λ u. le-ltb (length bytes) 8 (omega arith) u || le-ltb (length (drop 8 bytes)) (field bytes 0 8) (let c = counted in omega arith) u

-- ---- five of them

-- each section is short enough for its count
pub record Countable (x : Sections) : Type 0 where
  pub call : length x.call < 2 ^ 64
  pub first : length x.first < 2 ^ 64
  pub second : length x.second < 2 ^ 64
  pub answer : length x.answer < 2 ^ 64
  pub shown : length x.shown < 2 ^ 64

-- what is read of a record's bytes, and what stands behind them
pub record Reads (s : List ℕ) (x : Sections) (rest : List ℕ) : Type 0 where
  pub sections : sections_at s ≡ x
  pub behind : behind_sections 5 s ≡ rest
  pub whole : short_sections 5 s ≡ false

module _ (x : Sections) (rest : List ℕ) (f : Countable x) where
  abbrev t4 : List ℕ
  t4 = section x.shown ++ rest

  abbrev t3 : List ℕ
  t3 = section x.answer ++ t4

  abbrev t2 : List ℕ
  t2 = section x.second ++ t3

  abbrev t1 : List ℕ
  t1 = section x.first ++ t2

  abbrev t0 : List ℕ
  t0 = section x.call ++ t1

  in-turn : sections_bytes x ++ rest ≡ t0
  unfolding sections_bytes in_row
  in-turn = simp (append_assoc, append-nil)

  read-turn : Reads t0 x rest
  unfolding sections_at behind_sections short_sections
  read-turn =
      let b0 = section-behind x.call t1 f.call in
      let b1 = section-behind x.first t2 f.first in
      let b2 = section-behind x.second t3 f.second in
      let b3 = section-behind x.answer t4 f.answer in
      let b4 = section-behind x.shown rest f.shown in
      let e1 : behind_section t0 ≡ t1 = b0 in
      let e2 : behind_section (behind_section t0) ≡ t2 = ap behind_section e1 ∙ b1 in
      let e3 : behind_section (behind_section (behind_section t0)) ≡ t3 = ap behind_section e2 ∙ b2 in
      let e4 : behind_section (behind_section (behind_section (behind_section t0))) ≡ t4 = ap behind_section e3 ∙ b3 in
      record {
        sections = λ u.
            record {
              call = section-read x.call t1 f.call u;
              first = (ap section_in e1 ∙ section-read x.first t2 f.first) u;
              second = (ap section_in e2 ∙ section-read x.second t3 f.second) u;
              answer = (ap section_in e3 ∙ section-read x.answer t4 f.answer) u;
              shown = (ap section_in e4 ∙ section-read x.shown rest f.shown) u;
            };
        behind = ap behind_section e4 ∙ b4;
        whole = λ u.
            section-whole x.call t1 f.call u
            || ((ap short_section e1 ∙ section-whole x.first t2 f.first) u
            || ((ap short_section e2 ∙ section-whole x.second t3 f.second) u
            || ((ap short_section e3 ∙ section-whole x.answer t4 f.answer) u
            || ((ap short_section e4 ∙ section-whole x.shown rest f.shown) u || false))));
      }

  pub record-read : Reads (sections_bytes x ++ rest) x rest
  record-read = rw in-turn read-turn

-- ---- records in a row

pub record RowsRead (rs : List Recorded) (rest : List ℕ) : Type 0 where
  pub records : records_in (length rs) (in_row record_bytes rs ++ rest) ≡ map sections_in rs
  pub behind : behind_records (length rs) (in_row record_bytes rs ++ rest) ≡ rest
  pub whole : short_records (length rs) (in_row record_bytes rs ++ rest) ≡ false

pub rows-read : (rs : List Recorded) (rest : List ℕ) → Each (λ r. Countable (sections_in r)) rs → RowsRead rs rest
unfolding records_in behind_records short_records in_row
rows-read [] rest c = record { records = refl; behind = refl; whole = refl }
rows-read (r ∷ rs) rest c =
    let more = rows-read rs rest (λ q m. c q (Memᴰ.tail m)) in
    let t : List ℕ = in_row record_bytes rs ++ rest in
    let a : in_row record_bytes (r ∷ rs) ++ rest ≡ record_bytes r ++ t = append_assoc (record_bytes r) (in_row record_bytes rs) rest in
    let x = record-read (sections_in r) t (c r (Memᴰ.head refl)) in
    let b : behind_sections 5 (in_row record_bytes (r ∷ rs) ++ rest) ≡ t = ap (behind_sections 5) a ∙ x.behind in
    record {
      records = λ u. (ap sections_at a ∙ x.sections) u ∷ (ap (records_in (length rs)) b ∙ more.records) u;
      behind = ap (behind_records (length rs)) b ∙ more.behind;
      whole = λ u. (ap (short_sections 5) a ∙ x.whole) u || (ap (short_records (length rs)) b ∙ more.whole) u;
    }

-- ---- the recording

module _ (rs : List Recorded) (w : length rs < 2 ^ 64) (c : Each (λ r. Countable (sections_in r)) rs) where
  pub count-read : count_of (recording_bytes rs) ≡ length rs
  unfolding recording_bytes
  count-read = encoded-front 8 (length rs) (in_row record_bytes rs) w

  past-rows : drop 8 (recording_bytes rs) ≡ in_row record_bytes rs ++ []
  unfolding recording_bytes
  past-rows = drop_at (encode 8 (length rs)) (in_row record_bytes rs) 8 (length-encode 8 (length rs)) ∙ sym (append-nil (in_row record_bytes rs))

  pub sections-read : sections_of (recording_bytes rs) ≡ map sections_in rs
  sections-read = (λ u. records_in (count-read u) (past-rows u)) ∙ (rows-read rs [] c).records

  pub none_left : left_over (recording_bytes rs) ≡ []
  none_left = (λ u. behind_records (count-read u) (past-rows u)) ∙ (rows-read rs [] c).behind

  pub not_short : is_short (recording_bytes rs) ≡ false
  unfolding is_short recording_bytes
  not_short =
      let a = length-append (encode 8 (length rs)) (in_row record_bytes rs) in
      let d = length-encode 8 (length rs) in
      let n = (λ u. short_records (count-read u) (past-rows u)) ∙ (rows-read rs [] c).whole in
      λ u. le-ltb (length (recording_bytes rs)) 8 (omega arith) u || n u
