-- The lists of the live exporters where each keeps the list rules: where they begin and end, how many bytes they have together, and that
-- they lie inside the store and apart.
use Prim.Native.Nat.{ℕ, zero, suc, ◌<◌, ◌≤◌}
use mathlib.Core.Path.{◌≡◌, sym, ap, ◌∙◌}
use mathlib.Core.Bool.{Bool, true, ◌&&◌}
use mathlib.Core.List.{List, [], ◌∷◌, ◌++◌}
use native.Mathlib.Omega.{arith}
use borrow.Author.Tests.{eqb-true, eq-eqb, le-leb}
use lib.Dec.{eqb, leb}
use lib.ListN.{length, take, drop, length-drop, take-append-drop}
use lib.Seq.{length-take-le}
use Rattle.kinds.proofs.Refusing.{same_test}
use Rattle.bindings.specs.Bindings.{list_length, front_answer, list_answer}
use Rattle.bindings.proofs.ListAnswers.{front, front-list, list-front}
use Rattle.lists.specs.Lists.{tabulate, holding}
use Rattle.lists.proofs.Tests.{and_intro, and_left, and_right, holding-nil, holding-cons, holding-head}
use Rattle.lists.proofs.Lists.{every-at, tabulate-snoc}
use Rattle.table_columns.specs.Rows.{row_at}
use Rattle.rules.specs.Entries.{Exporter, lists_length}
use Rattle.rules.specs.Rules.{no_exporter}
use Rattle.rules.specs.Sound.{longest_list, store_bytes, lists_kept, lists_inside}
use Rattle.rules.specs.Contract.{Whole}
use Rattle.rules.proofs.ListsLength.{bytes-snoc}
use Rattle.rules.proofs.SoundLaws.{sound-fields, table-fields}
use Rattle.table_view.specs.Placed.{SoundPlaced}
use Rattle.table_words.specs.Kinds.{exporter_kind}
use Rattle.table_view.specs.View.{exporter_count, list_start, list_from, list_at, as_exporter, exporters_of, memory, view}
use Rattle.table_view.proofs.LiveRows.{exporters-length, exporter-at}
use Rattle.table_view.proofs.StoredLists.{start-next, start_first, list-four, starts-rise}
use Rattle.table_view.proofs.Checks.{every_row, table-checked}

-- a list at the front is accepted there, and no longer than it may be, where it is accepted as a whole list of that length
front-whole : (s : List ℕ) → (eqb (front_answer s) 0 && leb (list_length s) longest_list) ≡ (eqb (list_answer (take (list_length s) s)) 0 && leb (length (take (list_length s) s)) longest_list)
front-whole s =
    let l = take (list_length s) s in
    let whole : l ++ drop (list_length s) s ≡ s = take-append-drop (list_length s) s in
    let size : front_answer s ≡ 0 → length l ≡ list_length s = λ done. length-take-le (list_length s) s (front s done).enough in
    same_test _ _
    (λ t.
    let done = eqb-true _ 0 (and_left _ _ t) in
    and_intro _ _ (eq-eqb _ 0 (front-list s done)) (rw (size done) (and_right (eqb (front_answer s) 0) (leb (list_length s) longest_list) t)))
    (λ t.
    let done : front_answer s ≡ 0 = ap front_answer (sym whole) ∙ list-front l _ (eqb-true _ 0 (and_left _ _ t)) in
    and_intro _ _ (eq-eqb _ 0 done) (rw (size done) at (and_right (eqb (list_answer l) 0) (leb (length l) longest_list) t)))

-- the list of exporter i is accepted
abbrev pub kept_row : List ℕ → ℕ → Bool
kept_row store i = eqb (front_answer (list_from store i)) 0 && leb (list_length (list_from store i)) longest_list

-- every list is kept where each is accepted at the front of the bytes from its start on
pub kept-rows : (ws store : List ℕ) (n : ℕ) → n ≡ exporter_count ws → every_row n (kept_row store) ≡ lists_kept (view (memory ws store))
unfolding exporters_of
kept-rows ws store n e =
    table-checked _ (kept_row store) (λ i. as_exporter (row_at exporter_kind ws i) (list_at store i)) n (exporter_count ws) e
    (λ i l. front-whole (list_from store i))

module _ (ws store : List ℕ) (kept : lists_kept (view (memory ws store)) ≡ true) where
  row_kept : (i : ℕ) → i < exporter_count ws → kept_row store i ≡ true
  row_kept i h =
      let here = every-at (λ (x : Exporter). eqb (list_answer x.bindings) 0 && leb (length x.bindings) longest_list) (exporters_of ws store) no_exporter i (rw (exporters-length ws store) h) kept in
      front-whole (list_from store i) ∙ (rw (exporter-at ws store i no_exporter h) at here)

  -- the list of a live exporter is accepted at its start
  pub front_kept : (i : ℕ) → i < exporter_count ws → front_answer (list_from store i) ≡ 0
  front_kept i h = eqb-true _ 0 (and_left _ _ (row_kept i h))

  -- it is as long as its N says
  pub list-size : (i : ℕ) → i < exporter_count ws → length (list_at store i) ≡ list_length (list_from store i)
  list-size i h = length-take-le _ _ (front (list_from store i) (front_kept i h)).enough

  -- it ends within the store
  pub list-ends : (i : ℕ) → i < exporter_count ws → list_start store (suc i) ≤ length store
  list-ends i h =
      let e = (front (list_from store i) (front_kept i h)).enough in
      let f = list-four (list_from store i) in
      rw (start-next store i) (omega (arith, length-drop (list_start store i) store))

  -- and begins there
  pub list-starts : (i : ℕ) → i ≤ exporter_count ws → list_start store i ≤ length store
  list-starts zero h = rw (start_first store) (omega arith)
  list-starts (suc i) h = list-ends i (omega arith)

  -- the lists before a start have so many bytes
  bytes-before : (i : ℕ) → i ≤ exporter_count ws → lists_length (tabulate i (λ j. as_exporter (row_at exporter_kind ws j) (list_at store j))) ≡ list_start store i
  unfolding tabulate lists_length
  bytes-before zero h = sym (start_first store)
  bytes-before (suc i) h =
      ap lists_length (tabulate-snoc i (λ j. as_exporter (row_at exporter_kind ws j) (list_at store j)))
      ∙ bytes-snoc (tabulate i (λ j. as_exporter (row_at exporter_kind ws j) (list_at store j))) (as_exporter (row_at exporter_kind ws i) (list_at store i))
      ∙ (rw (bytes-before i (omega arith), list-size i (omega arith), start-next store i))

  -- all live lists have so many bytes as stand before the free ones
  pub bytes-live : lists_length (exporters_of ws store) ≡ list_start store (exporter_count ws)
  unfolding exporters_of
  bytes-live = bytes-before (exporter_count ws) (omega arith)

  -- lists that are kept lie inside the store
  pub kept-inside : Whole store → lists_inside (view (memory ws store)) ≡ true
  kept-inside l =
      let e = list-starts (exporter_count ws) (omega arith) in
      le-leb (lists_length (exporters_of ws store)) store_bytes (rw bytes-live (omega arith))

-- so whether the lists are kept decides both clauses
pub lists-judged : (ws store : List ℕ) → Whole store → lists_kept (view (memory ws store)) ≡ holding (lists_kept (view (memory ws store)) ∷ lists_inside (view (memory ws store)) ∷ [])
lists-judged ws store l =
    same_test _ _
    (λ t. holding-cons _ _ t (holding-cons _ _ (kept-inside ws store t l) holding-nil))
    (λ t. holding-head _ _ t)

-- the lists of a sound table lie inside the store, and no two overlap
pub sound-placed : SoundPlaced
sound-placed m h =
    let t = table-fields view m h in
    let ws = m.words in
    let store = m.store in
    let kept = (sound-fields (view m) t.entries).lists_kept in
    let size = t.store in
    record {
      inside = λ i l. let e = list-ends ws store kept i l in rw (list-size ws store kept i l, ← start-next store i) (omega arith);
      apart = λ i j b l. rw (list-size ws store kept i (omega arith), ← start-next store i) (starts-rise store (suc i) j b);
    }
