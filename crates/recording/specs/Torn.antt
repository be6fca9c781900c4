-- What is promised of a recording whose last write was torn. Statements only.
use Rattle.std.specs.Prelude.{ℕ, ◌-◌, ◌<◌, ◌≤◌, ◌≡◌, Bool, true, not, ◌||◌, List, ◌++◌, length, take, drop}
use Rattle.fields.specs.Fields.{encode, zeros}
use Rattle.rules.specs.Snapshot.{in_row}
use Rattle.rules.specs.Swapping.{Each}
use Rattle.recording.specs.Recording.{Recorded, record_bytes, recording_bytes, short_sections, sections_at, well_formed, most_records}
use Rattle.recording.specs.Statements.{Tells}
use Rattle.recording.specs.Whole.{Passes}
use Rattle.recording.specs.declared.Prefix.{Prefix}

-- no whole record stands at the front of bytes
abbrev pub none_whole : List ℕ → Bool
none_whole s = short_sections 5 s || not (well_formed (sections_at s))

-- eight bytes, whatever they are; records; what is left of a write that did not end
abbrev pub journal : List ℕ → List Recorded → List ℕ → List ℕ
journal front rs torn = front ++ (in_row record_bytes rs ++ torn)

-- what is found of it: the records that were written, and with their number put before them their recording
pub record Kept (s : List ℕ) (rs : List Recorded) (r : Prefix) : Type 0 where
  pub count : r.count ≡ length rs
  pub bytes : encode 8 r.count ++ take (r.end - 8) (drop 8 s) ≡ recording_bytes rs

abbrev pub KeepsWritten : Type 0
KeepsWritten =
    (rs : List Recorded) (front torn : List ℕ) (r : Prefix)
    → Each Tells rs
    → length rs ≤ most_records
    → length front ≡ 8
    → none_whole torn ≡ true
    → Passes (journal front rs torn) r
    → Kept (journal front rs torn) rs r

-- a record whose last bytes did not come is no whole one, wherever it was cut
abbrev pub CutIsTorn : Type 0
CutIsTorn = (r : Recorded) (k : ℕ) → Tells r → k < length (record_bytes r) → none_whole (take k (record_bytes r)) ≡ true

-- nor are zeros, as a file has them where its length was written and its bytes were not
abbrev pub ZerosAreTorn : Type 0
ZerosAreTorn = (n : ℕ) → none_whole (zeros n) ≡ true
