-- `call_enter::list_answer`: the rows of the refusals of a list in turn, the last as its two tests.
use Prim.Native.Nat.{ℕ, ◌+◌, ◌<◌, ◌≤◌}
use mathlib.Core.Path.{◌≡◌, refl, sym, ◌∙◌}
use mathlib.Core.Bool.{true}
use mathlib.Core.List.{List, [], ◌∷◌}
use native.Mathlib.Omega.{arith}
use borrow.Author.Tests.{lt-ltb, le-ltb, le-leb, lt-leb}
use lib.Dec.{ltb, leb}
use mir.Syntax.{w64}
use mir.Val.{Fits}
use lib.ListN.{length, drop}
use Rattle.kinds.specs.Refusals.{order, ◌gives◌}
use Rattle.kinds.proofs.Answering.{refusal-some}
use Rattle.kinds.proofs.Passing.{passed-is}
use Rattle.kinds.proofs.Refusing.{ne-differ, eq-differ}
use Rattle.bindings.specs.Bindings.{list_answer}
use Rattle.rules.specs.Entries.{exporter_places, lists_length}
use Rattle.rules.specs.Rules.{list_refusals, passes_store}
use Rattle.rules.specs.Contract.{Whole}
use Rattle.rules.specs.Sound.{longest_list, store_bytes, lists_kept}
use Rattle.table_view.specs.View.{exporter_count, list_start, exporters_of, memory, view}
use Rattle.table_view.proofs.LiveRows.{exporters-length}
use Rattle.table_view.proofs.KeptLists.{list-starts, bytes-live}
use Rattle.table_view.proofs.Steps.{row_gives, row-passes, rows_end, two-rows, full-tested}
use borrow.Author.Rules.{rules}
use Rattle.call_enter.proofs.list_answer.Goals as goal

module _ (ws s list : List ℕ) where
  bad-list : (n : ℕ) → n ≡ list_answer list → (n ≡ 0 → ⊥) → n ≡ order (list_refusals list (view (memory ws s)))
  bad-list n judged h = judged ∙ row_gives _ _ _ refl (ne-differ _ 0 (λ z. h (judged ∙ z)))

  module _ (good : 0 ≡ list_answer list) where
    left-1 : order (list_refusals list (view (memory ws s))) ≡ order (drop 1 (list_refusals list (view (memory ws s))))
    left-1 = row-passes _ _ _ refl (eq-differ _ 0 (sym good))

    long-list : longest_list < length list → 19 ≡ order (list_refusals list (view (memory ws s)))
    long-list h = row_gives _ _ _ left-1 (lt-ltb longest_list _ h)

    module _ (short : length list ≤ longest_list) (k : ℕ) (counted : k ≡ exporter_count ws) where
      -- the row of 9 as two: no place for the exporter, no room for its list
      left-2 : order (list_refusals list (view (memory ws s)))
          ≡ order (leb exporter_places (length (exporters_of ws s)) gives 9 ∷ passes_store (lists_length (exporters_of ws s) + length list) gives 9 ∷ [])
      left-2 = row-passes _ _ _ left-1 (le-ltb longest_list _ short) ∙ two-rows (leb exporter_places (length (exporters_of ws s))) _ 9 []

      full : exporter_places ≤ k → 9 ≡ order (list_refusals list (view (memory ws s)))
      full h = row_gives _ _ _ left-2 (full-tested (exporters_of ws s) exporter_places (exporters-length ws s) counted ∙ le-leb _ _ h)

      module _ (place : k < exporter_places) (kept : lists_kept (view (memory ws s)) ≡ true) (b : ℕ) (start : b ≡ list_start s k) where
        left-3 : order (list_refusals list (view (memory ws s))) ≡ order (ltb store_bytes (b + length list) gives 9 ∷ [])
        left-3 =
            row-passes _ _ _ left-2 (full-tested (exporters_of ws s) exporter_places (exporters-length ws s) counted ∙ lt-leb _ _ place)
            ∙ (rw (bytes-live ws s kept, ← counted, ← start))

        no_room : store_bytes < b + length list → 9 ≡ order (list_refusals list (view (memory ws s)))
        no_room h = row_gives _ _ _ left-3 (lt-ltb store_bytes _ h)

        done : b + length list ≤ store_bytes → 0 ≡ order (list_refusals list (view (memory ws s)))
        done h = rows_end (row-passes _ _ _ left-3 (le-ltb store_bytes _ h))

-- the live lists end where the next one would begin
begins : (ws s : List ℕ) → lists_kept (view (memory ws s)) ≡ true → (k : ℕ) → k ≡ exporter_count ws → list_start s k ≤ length s
begins ws s kept k e = list-starts ws s kept k (omega arith)

sum_fits : (ws s list : List ℕ) (b : ℕ) → length list ≤ longest_list → lists_kept (view (memory ws s)) ≡ true → Whole s → (k : ℕ) → k ≡ exporter_count ws → b ≡ list_start s k
    → Fits w64 (b + length list)
sum_fits ws s list b short kept w k e start = let h = begins ws s kept k e in omega arith

pub returns-in_err-list_answer : goal.returns-in_err-list_answer
returns-in_err-list_answer c = rw (passed-is _ _ c.from_residual.ensures.1) (bad-list _ _ _ _ c.in_err-list_answer.ensures (refusal-some _ refl))

pub returns-then-list-gt-LONGEST_LIST : goal.returns-then-list-gt-LONGEST_LIST
returns-then-list-gt-LONGEST_LIST c = search (long-list c.args.words.now c.args.store.now c.args.list.now c.in_ok-list_answer.ensures)

pub returns-then-n-ge-EXPORTER_PLACES : goal.returns-then-n-ge-EXPORTER_PLACES
returns-then-n-ge-EXPORTER_PLACES c = search (full c.args.words.now c.args.store.now c.args.list.now c.in_ok-list_answer.ensures)

pub list_start-requires : goal.list_start-requires
list_start-requires c = (search rules, search begins)

pub overflow_add-list_start : goal.overflow_add-list_start
overflow_add-list_start c = search sum_fits

pub returns-then-list_start-list-gt-BYTES : goal.returns-then-list_start-list-gt-BYTES
returns-then-list_start-list-gt-BYTES c = search (no_room c.args.words.now c.args.store.now c.args.list.now c.in_ok-list_answer.ensures)

pub returns : goal.returns
returns c = search (done c.args.words.now c.args.store.now c.args.list.now c.in_ok-list_answer.ensures)
