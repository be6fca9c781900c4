-- What the sections of a snapshot are read into, one after the other.
use Rattle.std.specs.Prelude.{ℕ, ◌≤◌, ◌≡◌, Bool, true, false, MatchOption, Option, List, length, drop}
use Rattle.fields.specs.Fields.{field}
use Rattle.rules.specs.Entries.{Entries, fresh, with_next}
use Rattle.rules.specs.Snapshot.{entries_of, is_snapshot}
use Rattle.snapshot_rows.specs.declared.Section.{Section}
use Rattle.snapshot_reader.specs.ReadRows.{with_section, fits}

-- no entries, with the clock and the next set number of a snapshot
abbrev pub begun : List ℕ → Entries
begun s = with_next (field s 10 8) (fresh (field s 2 8))

-- of a section from a place on that is read: the entries with it fit, and what follows begins at another place
pub record ReadsSection (k : Section) (s : List ℕ) (at : ℕ) (e : Entries) (to : ℕ) (e' : Entries) : Type 0 where
  pub fit : fits k (with_section k (drop at s) e).entries ≡ true
  pub entries : e' ≡ (with_section k (drop at s) e).entries
  pub rest : drop to s ≡ (with_section k (drop at s) e).rest
  pub inside : to ≤ length s

-- of a section from a place on: it is read where the entries with it fit
abbrev pub SectionRead : Section → List ℕ → ℕ → Entries → Option ℕ → Entries → Type 0
SectionRead k s at e r e' = MatchOption r (fits k (with_section k (drop at s) e).entries ≡ false) (λ to. ReadsSection k s at e to e')

-- of a table that bytes are read into: it holds their entries, or they are no snapshot
pub record TableRead (s : List ℕ) (r : Bool) (e : Entries) : Type 0 where
  pub entries : r ≡ true → e ≡ entries_of s
  pub refused : r ≡ false → is_snapshot s ≡ false
