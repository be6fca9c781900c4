-- `call_enter::interface_answer`: the rows of the refusals in turn.
use Prim.Native.Nat.{ℕ, ◌<◌, ◌≤◌}
use mathlib.Core.Path.{◌≡◌, refl, sym, ◌∙◌}
use mathlib.Core.Bool.{Bool, true, false, ◌||◌}
use mathlib.Core.List.{List}
use borrow.Author.Tests.{eq-eqb, ne_eqb, le-leb, lt-leb}
use lib.ListN.{drop}
use Rattle.kinds.specs.Refusals.{order}
use Rattle.kinds.specs.declared.Guid.{Guid}
use Rattle.lists.specs.Lists.{some}
use Rattle.lists.specs.Guids.{nil, same_guid}
use Rattle.rules.specs.Entries.{ipids, object_row, interface_places}
use Rattle.rules.specs.Calls.{Call, Edit}
use Rattle.rules.specs.Rules.{refusals, number}
use Rattle.table_view.specs.View.{object_count, interface_count, interfaces_of, memory, view, Holds}
use Rattle.table_view.proofs.LiveRows.{interfaces-length}
use Rattle.table_view.proofs.Steps.{row_gives, row-passes, gone-gives, live-passes, rows_end, object-tested, full-tested}
use Rattle.call_enter.proofs.interface_answer.Goals as goal

module _ (ws s : List ℕ) (o : ℕ) (i iid : Guid) (p : ℕ) where
  abbrev call : Call
  call = Call.editing (Edit.enter_interface o i iid p)

  -- the rows that are left after the first k
  abbrev Left : ℕ → Type 0
  Left k = number call (view (memory ws s)) ≡ order (drop k (refusals call (view (memory ws s))))

  module _ (b : Bool) where
    taken : b ≡ true → Holds (λ e. b ≡ (same_guid i nil || some (same_guid i) (ipids e))) ws → 3 ≡ number call (view (memory ws s))
    unfolding number refusals
    taken h judged = row_gives _ _ _ refl (sym (judged s) ∙ h)

    module _ (free : b ≡ false) (judged : Holds (λ e. b ≡ (same_guid i nil || some (same_guid i) (ipids e))) ws) (n : ℕ) (counted : n ≡ object_count ws) (r : ℕ) where
      left-1 : Left 1
      unfolding number refusals
      left-1 = row-passes _ _ _ refl (sym (judged s) ∙ free)

      gone : n ≤ r → Holds (λ e. r ≡ object_row e o) ws → 5 ≡ number call (view (memory ws s))
      unfolding refusals
      gone h row = gone-gives (object-tested ws s o (row s) counted) _ _ left-1 h

      module _ (live : r < n) (row : Holds (λ e. r ≡ object_row e o) ws) where
        left-2 : Left 2
        unfolding refusals
        left-2 = live-passes (object-tested ws s o (row s) counted) _ _ left-1 live

        no-references : p ≡ 0 → 7 ≡ number call (view (memory ws s))
        unfolding refusals
        no-references h = row_gives _ _ _ left-2 (eq-eqb _ 0 h)

        module _ (given : p ≡ 0 → ⊥) (m : ℕ) (there : m ≡ interface_count ws) where
          left-3 : Left 3
          unfolding refusals
          left-3 = row-passes _ _ _ left-2 (ne_eqb _ 0 given)

          full : interface_places ≤ m → 9 ≡ number call (view (memory ws s))
          unfolding refusals
          full h = row_gives _ _ _ left-3 (full-tested (interfaces_of ws) interface_places (interfaces-length ws) there ∙ le-leb _ _ h)

          done : m < interface_places → 0 ≡ number call (view (memory ws s))
          unfolding refusals
          done h = rows_end (row-passes _ _ _ left-3 (full-tested (interfaces_of ws) interface_places (interfaces-length ws) there ∙ lt-leb _ _ h))

pub returns-then-ipid_taken : goal.returns-then-ipid_taken
returns-then-ipid_taken = (λ c s iid. search taken)

pub returns-then-object_count-object_row : goal.returns-then-object_count-object_row
returns-then-object_count-object_row = (λ c s iid. search gone)

pub returns-then-public-eq0 : goal.returns-then-public-eq0
returns-then-public-eq0 = (λ c s iid. search no-references)

pub returns-then-interface_count-ge-INTERFACE_PLACES : goal.returns-then-interface_count-ge-INTERFACE_PLACES
returns-then-interface_count-ge-INTERFACE_PLACES = (λ c s iid. search full)

pub returns : goal.returns
returns = (λ c s iid. search done)
