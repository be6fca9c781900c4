-- What a judgement leaves to the call after it.
use Rattle.std.specs.Prelude.{ℕ, ◌≡◌, Bool, true, List}
use Rattle.table_columns.specs.Buckets.{guid_bucket, Indexed}
use Rattle.table_view.specs.View.{ipids_of}

-- r: the table is sound; then the rows are an index of the interfaces' IPIDs
pub record Leaves (r : Bool) (rows ws : List ℕ) : Type 0 where
  pub index : r ≡ true → Indexed guid_bucket rows (ipids_of ws)
