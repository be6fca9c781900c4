-- `call_enter::object_answer`: the rows of the refusals in turn, the first as its three tests and the last as its two.
use Prim.Native.Nat.{ℕ, ◌<◌, ◌≤◌}
use mathlib.Core.Path.{◌≡◌, sym, ◌∙◌}
use mathlib.Core.Bool.{Bool, true, false, not, ◌||◌}
use mathlib.Core.List.{List, [], ◌∷◌}
use borrow.Author.Tests.{eq-eqb, ne_eqb, lt-ltb, le-ltb, le-leb, lt-leb}
use lib.Dec.{eqb, leb}
use lib.ListN.{length, drop}
use Rattle.kinds.specs.Refusals.{order, ◌gives◌}
use Rattle.kinds.specs.declared.Guid.{Guid}
use Rattle.lists.specs.Lists.{some}
use Rattle.lists.specs.Guids.{nil, same_guid}
use Rattle.rules.specs.Entries.{ipids, exporter_row, object_row, object_places, interface_places}
use Rattle.rules.specs.Calls.{Call, Edit}
use Rattle.rules.specs.Rules.{refusals, number, is_live_exporter, is_live_object}
use Rattle.table_view.specs.View.{exporter_count, object_count, interface_count, objects_of, interfaces_of, memory, view, Holds}
use Rattle.table_view.proofs.LiveRows.{objects-length, interfaces-length}
use Rattle.table_view.proofs.Steps.{row_gives, row-passes, gone-gives, live-passes, rows_end, two-rows, identifier-rows, exporter-tested, object-tested, full-tested}
use Rattle.call_enter.proofs.object_answer.Goals as goal

module _ (ws s : List ℕ) (o x : ℕ) (i iid : Guid) (p : ℕ) (np : Bool) where
  abbrev call : Call
  call = Call.editing (Edit.enter_object o x i iid p np)

  -- the rows that are left after the first k, the first as its three tests and the last as its two
  abbrev Left : ℕ → Type 0
  Left k =
      let e = view (memory ws s) in
      number call e
      ≡ order
      (drop k
      (eqb o 0 gives 3
      ∷ is_live_object e o gives 3
      ∷ (same_guid i nil || some (same_guid i) (ipids e)) gives 3
      ∷ not (is_live_exporter e x) gives 4
      ∷ eqb p 0 gives 7
      ∷ leb object_places (length (objects_of ws)) gives 9
      ∷ leb interface_places (length (interfaces_of ws)) gives 9
      ∷ []))

  left-0 : Left 0
  unfolding number refusals order
  left-0 =
      let e = view (memory ws s) in
      identifier-rows (eqb o 0) (is_live_object e o) (same_guid i nil || some (same_guid i) (ipids e)) 3 (drop 1 (refusals call e))
      ∙ rw (two-rows (leb object_places (length (objects_of ws))) (leb interface_places (length (interfaces_of ws))) 9 [])

  zero : o ≡ 0 → 3 ≡ number call (view (memory ws s))
  zero h = row_gives _ _ _ left-0 (eq-eqb _ 0 h)

  module _ (given : o ≡ 0 → ⊥) (n : ℕ) (counted : n ≡ object_count ws) (r : ℕ) where
    live : r < n → Holds (λ e. r ≡ object_row e o) ws → 3 ≡ number call (view (memory ws s))
    live h row = row_gives _ _ _ (row-passes _ _ _ left-0 (ne_eqb _ 0 given)) (object-tested ws s o (row s) counted ∙ lt-ltb _ _ h)

    module _ (new : n ≤ r) (row : Holds (λ e. r ≡ object_row e o) ws) (b : Bool) where
      left-2 : Left 2
      left-2 = row-passes _ _ _ (row-passes _ _ _ left-0 (ne_eqb _ 0 given)) (object-tested ws s o (row s) counted ∙ le-ltb _ _ new)

      taken : b ≡ true → Holds (λ e. b ≡ (same_guid i nil || some (same_guid i) (ipids e))) ws → 3 ≡ number call (view (memory ws s))
      taken h judged = row_gives _ _ _ left-2 (sym (judged s) ∙ h)

      module _ (free : b ≡ false) (judged : Holds (λ e. b ≡ (same_guid i nil || some (same_guid i) (ipids e))) ws) (m : ℕ) (exporters : m ≡ exporter_count ws) (k : ℕ) where
        left-3 : Left 3
        left-3 = row-passes _ _ _ left-2 (sym (judged s) ∙ free)

        gone : m ≤ k → Holds (λ e. k ≡ exporter_row e x) ws → 4 ≡ number call (view (memory ws s))
        gone h at = gone-gives (exporter-tested ws s x (at s) exporters) _ _ left-3 h

        module _ (owned : k < m) (at : Holds (λ e. k ≡ exporter_row e x) ws) where
          left-4 : Left 4
          left-4 = live-passes (exporter-tested ws s x (at s) exporters) _ _ left-3 owned

          no-references : p ≡ 0 → 7 ≡ number call (view (memory ws s))
          no-references h = row_gives _ _ _ left-4 (eq-eqb _ 0 h)

          module _ (held : p ≡ 0 → ⊥) (n₂ : ℕ) (again : n₂ ≡ object_count ws) where
            left-5 : Left 5
            left-5 = row-passes _ _ _ left-4 (ne_eqb _ 0 held)

            full : object_places ≤ n₂ → 9 ≡ number call (view (memory ws s))
            full h = row_gives _ _ _ left-5 (full-tested (objects_of ws) object_places (objects-length ws) again ∙ le-leb _ _ h)

            module _ (place : n₂ < object_places) (q : ℕ) (there : q ≡ interface_count ws) where
              left-6 : Left 6
              left-6 = row-passes _ _ _ left-5 (full-tested (objects_of ws) object_places (objects-length ws) again ∙ lt-leb _ _ place)

              full-interfaces : interface_places ≤ q → 9 ≡ number call (view (memory ws s))
              full-interfaces h = row_gives _ _ _ left-6 (full-tested (interfaces_of ws) interface_places (interfaces-length ws) there ∙ le-leb _ _ h)

              done : q < interface_places → 0 ≡ number call (view (memory ws s))
              done h = rows_end (row-passes _ _ _ left-6 (full-tested (interfaces_of ws) interface_places (interfaces-length ws) there ∙ lt-leb _ _ h))

pub returns-then-oid-eq0 : goal.returns-then-oid-eq0
returns-then-oid-eq0 = (λ c s iid np. search zero)

pub returns-then-object_row-object_count : goal.returns-then-object_row-object_count
returns-then-object_row-object_count = (λ c s iid np. search live)

pub returns-then-ipid_taken : goal.returns-then-ipid_taken
returns-then-ipid_taken = (λ c s iid np. search taken)

pub returns-then-exporter_count-exporter_row : goal.returns-then-exporter_count-exporter_row
returns-then-exporter_count-exporter_row = (λ c s iid np. search gone)

pub returns-then-public-eq0 : goal.returns-then-public-eq0
returns-then-public-eq0 = (λ c s iid np. search no-references)

pub returns-then-object_count-ge-OBJECT_PLACES : goal.returns-then-object_count-ge-OBJECT_PLACES
returns-then-object_count-ge-OBJECT_PLACES = (λ c s iid np. search full)

pub returns-then-interface_count-ge-INTERFACE_PLACES : goal.returns-then-interface_count-ge-INTERFACE_PLACES
returns-then-interface_count-ge-INTERFACE_PLACES = (λ c s iid np. search full-interfaces)

pub returns : goal.returns
returns = (λ c s iid np. search done)
