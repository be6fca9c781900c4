-- Laws of the columns of GUIDs' halves.
use Rattle.std.proofs.Common.{◌≡◌, ℕ, zero, suc, ◌+◌, ◌-◌, ◌<◌, ◌≤◌, false, List, [], ◌∷◌, ◌++◌, length, get_or, take, drop, refl, sym, ap, ◌∙◌, arith, take-append-drop, length-take}
use Rattle.kinds.specs.declared.Guid.{Guid}
use Rattle.lists.specs.Lists.{some, first_index, tabulate}
use Rattle.lists.specs.Guids.{nil, same_guid}
use Rattle.table_columns.specs.Guids.{guid_at, guids}
use Rattle.lists.proofs.Lists.{length-tabulate, get_d_tabulate, tabulate-ext}
use Rattle.lists.proofs.First.{first-right}
use Rattle.table_columns.proofs.Loops.{column-end, table-end, last_step}

-- so many as low halves
pub length-guids : (lows highs : List ℕ) → length (guids lows highs) ≡ length lows
unfolding guids
length-guids lows highs = length-tabulate (length lows) (guid_at lows highs)

-- the GUID at an index
pub get_or-guids : (lows highs : List ℕ) (d : Guid) (i : ℕ) → i < length lows → get_or (guids lows highs) i d ≡ guid_at lows highs i
unfolding guids
get_or-guids lows highs d i h = get_d_tabulate (length lows) (guid_at lows highs) d i h

-- two columns that are tables
pub guids-tabulate : (n : ℕ) (f g : ℕ → ℕ) → guids (tabulate n f) (tabulate n g) ≡ tabulate n (λ i. record { low = f i; high = g i })
unfolding guids
guids-tabulate n f g =
    ap (λ (m : ℕ). tabulate m (guid_at (tabulate n f) (tabulate n g))) (length-tabulate n f)
    ∙ tabulate-ext n (guid_at (tabulate n f) (tabulate n g)) (λ i. record { low = f i; high = g i })
    (λ i h u. record { low = get_d_tabulate n f 0 i h u; high = get_d_tabulate n g 0 i h u })

-- the GUIDs from i on

-- going backwards, the one before the GUIDs from n on
pub guids-last : (lows highs : List ℕ) (n : ℕ) {g : Guid} → g ≡ guid_at lows highs (n - 1) → 0 < n → n ≤ length lows → drop (n - 1) (guids lows highs) ≡ g ∷ drop n (guids lows highs)
guids-last lows highs n e p h =
    last_step (guids lows highs) nil n p (rw length-guids h)
    ∙ ap (λ (x : Guid). x ∷ drop n (guids lows highs)) (get_or-guids lows highs nil (n - 1) (omega arith) ∙ sym e)

-- two columns that go on
pub guids-append : (xs ys us vs : List ℕ) → length xs ≡ length us → guids (xs ++ ys) (us ++ vs) ≡ guids xs us ++ guids ys vs
unfolding guids tabulate
guids-append [] ys [] vs e = refl
guids-append [] ys (u ∷ us) vs e = absurd (omega arith)
guids-append (x ∷ xs) ys [] vs e = absurd (omega arith)
guids-append (x ∷ xs) ys (u ∷ us) vs e = ap (λ (gs : List Guid). record { low = x; high = u } ∷ gs) (guids-append xs ys us vs (omega arith))

-- the GUIDs from an index on
pub guids-drop : (k : ℕ) (lows highs : List ℕ) → drop k (guids lows highs) ≡ guids (drop k lows) (drop k highs)
unfolding guids tabulate
guids-drop zero lows highs = refl
guids-drop (suc k) [] highs = refl
guids-drop (suc k) (x ∷ xs) [] = guids-drop k xs [] ∙ ap (guids (drop k xs)) (column-end [] k (omega arith))
guids-drop (suc k) (x ∷ xs) (u ∷ us) = guids-drop k xs us

-- so many at the front are passed
pub guids-passed : (lows highs : List ℕ) (g : Guid) (m : ℕ) → m ≤ length lows → some (same_guid g) (take m (guids lows highs)) ≡ false
    → first_index (same_guid g) (guids lows highs) ≡ m + first_index (same_guid g) (drop m (guids lows highs))
guids-passed lows highs g m h n =
    let gs = guids lows highs in
    let l : length (take m gs) ≡ m = rw (length-take m gs, length-guids lows highs) (omega arith) in
    ap (first_index (same_guid g)) (sym (take-append-drop m gs)) ∙ first-right (same_guid g) (take m gs) (drop m gs) n ∙ ap (λ (k : ℕ). k + first_index (same_guid g) (drop m gs)) l

-- none is left
pub guids-end : (lows highs : List ℕ) (i : ℕ) → length lows ≤ i → drop i (guids lows highs) ≡ []
unfolding guids
guids-end lows highs i h = table-end (length lows) (guid_at lows highs) i h
