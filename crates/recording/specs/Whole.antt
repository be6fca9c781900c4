-- The records at the front of bytes that are whole: what a recording holds whose last write was torn.
use Rattle.std.specs.Prelude.{ℕ, zero, suc, ◌<◌, ◌≤◌, ◌≡◌, cond, not, ◌||◌, List, length, drop}
use Rattle.recording.specs.Recording.{behind_sections, behind_records, short_sections, sections_at, well_formed, most_records}
use Rattle.recording.specs.declared.Prefix.{Prefix}

-- how many records at the front of bytes are whole and well formed, n at most
unfoldable pub whole_records : ℕ → List ℕ → ℕ
whole_records zero s = 0
whole_records (suc n) s = cond (short_sections 5 s || not (well_formed (sections_at s))) 0 (suc (whole_records n (behind_sections 5 s)))

-- those behind the number of records: how many, and where they end
pub record Passes (s : List ℕ) (r : Prefix) : Type 0 where
  pub count : r.count ≡ whole_records most_records (drop 8 s)
  pub behind : behind_records r.count (drop 8 s) ≡ drop r.end s
  pub from : 8 ≤ r.end
  pub inside : r.end ≤ length s

pub record Found (s : List ℕ) (r : Prefix) : Type 0 where
  pub none : length s < 8 → r ≡ record { count = 0; end = 0 }
  pub some : 8 ≤ length s → Passes s r
