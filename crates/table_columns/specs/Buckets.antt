-- Buckets: numbers below 4,096, one for each GUID and each word, under which the same ones are found.
use Rattle.std.specs.Prelude.{◌≡◌, ℕ, ◌+◌, ◌*◌, ◌/◌, ◌%◌, ◌^◌, true, not, List, length, ◌==◌, slice_index}
use Rattle.kinds.specs.declared.Guid.{Guid}
use Rattle.lists.specs.Lists.{every}

-- middle bits of a sum of products, so that words that count up by any step spread; the factors are odd and below 2 ^ 30
unfoldable pub word_bucket : ℕ → ℕ
word_bucket x = (x % 4294967296 * 961217543 + x / 4294967296 * 699039225) / 1048576 % 4096

-- that of the sum of both halves, as 64 bits hold it
abbrev pub guid_bucket : Guid → ℕ
guid_bucket g = word_bucket ((g.low + g.high) % 2 ^ 64)

-- a second bucket of a GUID
abbrev pub low_bucket : Guid → ℕ
low_bucket g = g.low % 4096

-- a number for each bucket: 0, or one more than a row to try; that of each element's bucket is not 0
pub record Indexed {A : Type 0} (bucket : A → ℕ) (rows : List ℕ) (xs : List A) : Type 0 where
  pub size : length rows ≡ 4096
  pub each : every (λ x. not (slice_index rows (bucket x) == 0)) xs ≡ true
