-- Hints: a number under each bucket, by which a row is tried before others are looked at.
use Rattle.std.specs.Prelude.{ℕ, suc, zero, ◌%◌, List, get_or, set}
use Rattle.table_columns.specs.Buckets.{word_bucket}

-- once the first n rows are noted, in their order: under the bucket of each identifier a byte of its row's number, that of the last row
-- where several share a bucket; under the others what was there
unfoldable pub hinted : List ℕ → List ℕ → ℕ → List ℕ
hinted ids hints zero = hints
hinted ids hints (suc n) = set (hinted ids hints n) (word_bucket (get_or ids n 0)) (n % 256)
