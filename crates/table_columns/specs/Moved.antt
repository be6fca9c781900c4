-- What a column or a store becomes where something is taken out or copied down.
use Rattle.std.specs.Prelude.{ℕ, ◌+◌, ◌-◌, cond, ◌&&◌, List, [], ◌∷◌, ◌++◌, length, take, drop, nat_le, nat_lt, slice_index}
use Rattle.lists.specs.Lists.{delete_at}

-- a column without the word at k: the later words move down by one, and the last stays
unfoldable pub removed_at : ℕ → List ℕ → List ℕ
removed_at k col = cond (nat_lt k (length col)) (delete_at k col ++ (slice_index col (length col - 1) ∷ [])) col

-- n bytes copied from a place to an earlier one; unchanged where the places are not in that order, or the bytes are not all there
unfoldable pub copied_down : ℕ → ℕ → ℕ → List ℕ → List ℕ
copied_down from to n s =
    cond (nat_le to from && nat_le (from + n) (length s)) (take to s ++ (take n (drop from s) ++ drop (to + n) s)) s
