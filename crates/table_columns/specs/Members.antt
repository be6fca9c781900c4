-- Members of a set of rows: a bit for each of 128 rows, in two words.
use Rattle.std.specs.Prelude.{◌≡◌, ℕ, ◌+◌, ◌-◌, ◌*◌, ◌/◌, ◌%◌, ◌^◌, ◌<◌, Bool, cond, ◌&&◌, List, ◌==◌, nat_lt}
use Rattle.lists.specs.Lists.{keep, tabulate, skip}
use Rattle.table_columns.specs.declared.members.Members.{Members}

-- bit j of a word is 1
unfoldable pub bit_of : ℕ → ℕ → Bool
bit_of w j = w / 2 ^ j % 2 == 1

-- row j is a member
unfoldable pub has_member : Members → ℕ → Bool
has_member m j = cond (nat_lt j 64) (bit_of m.low j) (nat_lt j 128 && bit_of m.high (j - 64))

-- the rows that are members
unfoldable pub member_rows : Members → List ℕ
member_rows m = keep (has_member m) (tabulate 128 (λ j. j))

-- the word with bit k set to b
unfoldable pub put_bit : ℕ → ℕ → ℕ → ℕ
put_bit w k b = (w / 2 ^ k / 2 * 2 + b) * 2 ^ k + w % 2 ^ k

-- the word without bit k: the higher bits move down by one
unfoldable pub cut_bit : ℕ → ℕ → ℕ
cut_bit w k = w / 2 ^ k / 2 * 2 ^ k + w % 2 ^ k

-- both words are below 2 ^ 64
abbrev pub InWords : Members → Type 0
InWords m = (m.low < 2 ^ 64) × (m.high < 2 ^ 64)

-- row j is a member or not; a row of 128 or more changes nothing
pub record MemberPut (j : ℕ) (member : Bool) (m r : Members) : Type 0 where
  pub words : InWords r
  pub rows : (i : ℕ) → has_member r i ≡ cond (nat_lt j 128 && i == j) member (has_member m i)

-- row k is taken out, and the rows above it are one lower
pub record Cut (k : ℕ) (m r : Members) : Type 0 where
  pub words : InWords r
  pub member : (i : ℕ) → has_member r i ≡ has_member m (skip k i)
