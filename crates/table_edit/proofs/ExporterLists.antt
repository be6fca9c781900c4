-- Exporters and their lists in the store: one row and one list more, one row and one list less.
use Prim.Native.Nat.{ℕ, suc, ◌+◌, ◌<◌}
use mathlib.Core.Path.{◌≡◌, sym, ap, ◌∙◌}
use mathlib.Core.List.{List, [], ◌∷◌, ◌++◌}
use native.Mathlib.Omega.{arith}
use lib.ListN.{length, get_or, length-append, get_or-append}
use lib.Seq.{get_or-append_seam}
use Rattle.lists.specs.Lists.{delete_at, skip}
use Rattle.lists.proofs.Lists.{tabulate-ext, tabulate-snoc, delete-tabulate, length-delete, get_or-delete}
use Rattle.table_columns.proofs.rows.Laws.{length-rows}
use Rattle.rules.specs.Entries.{exporter_places}
use Rattle.table_words.specs.Kinds.{exporter_kind}
use Rattle.table_view.specs.View.{exporter_count, list_at, as_exporter, memory, view}
use Rattle.table_edit.specs.Edits.{Pushed, Pulled, add_exporter, drop_exporter}
use Rattle.table_edit.proofs.KindRows.{live, live-pushed, live-pulled}
use Rattle.table_edit.proofs.Views.{exporters_from, exporters-from, became-exporters}

-- one row and one list more
from-pushed : (rs : List (List ℕ)) (r l s s' : List ℕ) → ((i : ℕ) → i < length rs → list_at s' i ≡ list_at s i) → list_at s' (length rs) ≡ l
    → exporters_from (rs ++ (r ∷ [])) s' ≡ exporters_from rs s ++ (as_exporter r l ∷ [])
from-pushed rs r l s s' f e =
    let n : length (rs ++ (r ∷ [])) ≡ suc (length rs) = length-append rs (r ∷ []) ∙ (let z : length rs + 1 ≡ suc (length rs) = omega arith in z) in
    let front =
    tabulate-ext (length rs) (λ i. as_exporter (get_or (rs ++ (r ∷ [])) i []) (list_at s' i)) (λ i. as_exporter (get_or rs i []) (list_at s i))
    (λ i h. λ u. as_exporter (get_or-append rs (r ∷ []) [] i h u) (f i h u)) in
    rw n
    (tabulate-snoc (length rs) _
    ∙ (λ u. front u ++ (as_exporter (get_or-append_seam rs r [] [] u) (e u) ∷ [])))

-- one row and one list less
from-pulled : (rs : List (List ℕ)) (i : ℕ) (s s' : List ℕ) → i < length rs → ((j : ℕ) → suc j < length rs → list_at s' j ≡ list_at s (skip i j))
    → exporters_from (delete_at i rs) s' ≡ delete_at i (exporters_from rs s)
from-pulled rs i s s' h f =
    let n = length-delete i rs h in
    rw (← n)
    (tabulate-ext (length (delete_at i rs)) _ _ (λ j b. λ u. as_exporter (get_or-delete i rs [] j u) (f j (omega arith) u))
    ∙ sym (delete-tabulate (length (delete_at i rs)) i (λ j. as_exporter (get_or rs j []) (list_at s j)) (omega arith)))

module _ (ws ws' : List ℕ) (n : ℕ) (e : n ≡ exporter_count ws) (s s' : List ℕ) where
  -- an exporter by its row and its list
  pub exporter-pushed : (r l : List ℕ) → n < exporter_places → Pushed exporter_kind 2 n r ws ws' → ((i : ℕ) → i < n → list_at s' i ≡ list_at s i) → list_at s' n ≡ l
      → view (memory ws' s') ≡ add_exporter (as_exporter r l) (view (memory ws s))
  exporter-pushed r l b p f g =
      let z : length (live exporter_kind 2 ws) ≡ n = length-rows exporter_kind ws (exporter_count ws) ∙ sym e in
      became-exporters ws ws' _ s s' p.only
      (exporters-from ws' s'
      ∙ ap (λ (rs : List (List ℕ)). exporters_from rs s') (live-pushed exporter_kind 2 n ws ws' e r p b)
      ∙ from-pushed (live exporter_kind 2 ws) r l s s' (λ i h. f i (omega arith)) (rw z g)
      ∙ (rw (exporters-from ws s)))

  -- an exporter goes
  pub exporter-pulled : (i : ℕ) → i < n → Pulled exporter_kind 2 n i ws ws' → ((j : ℕ) → suc j < n → list_at s' j ≡ list_at s (skip i j))
      → view (memory ws' s') ≡ drop_exporter i (view (memory ws s))
  exporter-pulled i h p f =
      let z : length (live exporter_kind 2 ws) ≡ n = length-rows exporter_kind ws (exporter_count ws) ∙ sym e in
      became-exporters ws ws' _ s s' p.only
      (exporters-from ws' s'
      ∙ ap (λ (rs : List (List ℕ)). exporters_from rs s') (live-pulled exporter_kind 2 n ws ws' e i p)
      ∙ from-pulled (live exporter_kind 2 ws) i s s' (omega arith) (λ j b. f j (omega arith))
      ∙ (rw (exporters-from ws s)))
