-- The sections and records of a recording by their places in its bytes.
use Rattle.std.specs.Prelude.{ℕ, zero, suc, ◌+◌, ◌≤◌, ◌≡◌, false, cond, ◌||◌, List, length, drop, eqb}
use Rattle.fields.specs.Fields.{field}
use Rattle.lists.specs.Lists.{every}
use Rattle.recording.specs.Recording.{short_section, short_records, well_formed, records_in, behind_records}
use Rattle.recording.specs.declared.Ends.{Ends}
use Rattle.recording.specs.declared.Passed.{Passed}

-- where the section from at ends; 0 where at is 0, or the bytes end before it does
unfoldable pub section_end : List ℕ → ℕ → ℕ
section_end s at = cond (eqb at 0 || short_section (drop at s)) 0 (at + 8 + field s at 8)

-- where n sections from at end
unfoldable pub ends_from : ℕ → List ℕ → ℕ → ℕ
ends_from zero s at = at
ends_from (suc n) s at = ends_from n s (section_end s at)

abbrev pub record_ends : List ℕ → ℕ → Ends
record_ends s at =
    record {
      call = ends_from 1 s at;
      first = ends_from 2 s at;
      second = ends_from 3 s at;
      answer = ends_from 4 s at;
      shown = ends_from 5 s at;
    }

-- a record stands from at, with its ends
pub record RecordAt (s : List ℕ) (at : ℕ) (e : Ends) : Type 0 where
  pub past : at ≡ 0 → ⊥
  pub ends : e ≡ record_ends s at
  pub whole : e.shown ≡ 0 → ⊥

-- n records from byte 8, of which none is short: whether they are well formed, and what is left behind them
pub record Walked (s : List ℕ) (n : ℕ) (r : Passed) : Type 0 where
  pub whole : short_records n (drop 8 s) ≡ false
  pub fits : r.fits ≡ every well_formed (records_in n (drop 8 s))
  pub left : behind_records n (drop 8 s) ≡ drop r.end s
  pub inside : r.end ≤ length s
