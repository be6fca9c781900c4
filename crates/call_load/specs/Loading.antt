-- What a snapshot is read into.
use Rattle.std.specs.Prelude.{ℕ, ◌≡◌, Bool, true, List}
use Rattle.rules.specs.Entries.{Entries}
use Rattle.rules.specs.Snapshot.{entries_of, is_snapshot}

-- of a table that a snapshot is read into: the bytes are accepted where they are a snapshot, and the table holds their entries
pub record SnapshotRead (s : List ℕ) (r : Bool) (e : Entries) : Type 0 where
  pub accepted : r ≡ is_snapshot s
  pub entries : r ≡ true → e ≡ entries_of s
