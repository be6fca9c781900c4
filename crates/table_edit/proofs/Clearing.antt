-- The array after a reset holds no entries.
use Prim.Native.Nat.{ℕ, ◌≤◌}
use mathlib.Core.Path.{◌≡◌, refl, ap, ◌∙◌}
use mathlib.Core.List.{List, [], ◌∷◌}
use native.Mathlib.Omega.{arith}
use lib.ListN.{length, set, drop}
use Rattle.lists.specs.Lists.{tabulate}
use Rattle.table_columns.specs.Rows.{rows}
use Rattle.rules.specs.Entries.{fresh}
use Rattle.table_view.specs.View.{exporters_of, objects_of, interfaces_of, sets_of, memory, view}

-- the words after the six stores of a reset
abbrev pub cleared : List ℕ → ℕ → List ℕ
cleared ws t = set (set (set (set (set (set ws 0 t) 1 1) 2 0) 3 0) 4 0) 5 0

cleared-front : (ws : List ℕ) (t : ℕ) → 6 ≤ length ws → cleared ws t ≡ t ∷ 1 ∷ 0 ∷ 0 ∷ 0 ∷ 0 ∷ drop 6 ws
cleared-front [] t h = absurd (omega arith)
cleared-front (a ∷ []) t h = absurd (omega arith)
cleared-front (a ∷ b ∷ []) t h = absurd (omega arith)
cleared-front (a ∷ b ∷ c ∷ []) t h = absurd (omega arith)
cleared-front (a ∷ b ∷ c ∷ d ∷ []) t h = absurd (omega arith)
cleared-front (a ∷ b ∷ c ∷ d ∷ e ∷ []) t h = absurd (omega arith)
cleared-front (a ∷ b ∷ c ∷ d ∷ e ∷ f ∷ ws) t h = refl

no-entries : (t : ℕ) (rest store : List ℕ) → view (memory (t ∷ 1 ∷ 0 ∷ 0 ∷ 0 ∷ 0 ∷ rest) store) ≡ fresh t
unfolding exporters_of objects_of interfaces_of sets_of rows tabulate
no-entries t rest store = refl

pub cleared-view : (ws : List ℕ) (t : ℕ) → length ws ≡ 8192 → (store : List ℕ) → view (memory (cleared ws t) store) ≡ fresh t
cleared-view ws t size store = ap (λ (x : List ℕ). view (memory x store)) (cleared-front ws t (omega arith)) ∙ no-entries t (drop 6 ws) store
