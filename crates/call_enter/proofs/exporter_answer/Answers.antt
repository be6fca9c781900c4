-- `call_enter::exporter_answer`: the tests of the identifiers in turn, then the refusals of the list.
use Prim.Native.Nat.{ℕ, ◌<◌, ◌≤◌}
use mathlib.Core.Path.{◌≡◌, sym, ◌∙◌}
use mathlib.Core.Bool.{Bool, true, false, ◌||◌}
use mathlib.Core.List.{List, ◌∷◌}
use borrow.Author.Tests.{eq-eqb, ne_eqb, lt-ltb, le-ltb}
use lib.Dec.{eqb}
use Rattle.kinds.specs.Refusals.{order, ◌gives◌}
use Rattle.kinds.specs.declared.Guid.{Guid}
use Rattle.lists.specs.Lists.{some}
use Rattle.lists.specs.Guids.{nil, same_guid}
use Rattle.rules.specs.Entries.{ipids, exporter_row}
use Rattle.rules.specs.Calls.{Call, Edit}
use Rattle.rules.specs.Rules.{refusals, number, list_refusals, is_live_exporter}
use Rattle.rules.specs.Sound.{lists_kept}
use Rattle.rules.specs.Contract.{Whole}
use Rattle.rules.proofs.SoundLaws.{sound-fields}
use Rattle.table_view.specs.View.{exporter_count, memory, view, SoundTable, Holds}
use Rattle.table_view.proofs.Steps.{row_gives, row-passes, identifier-rows, exporter-tested}
use Rattle.call_enter.proofs.exporter_answer.Goals as goal

kept : (ws s : List ℕ) → SoundTable (memory ws s) → Whole ws × Whole s × (lists_kept (view (memory ws s)) ≡ true)
kept ws s t = (t.words, t.store, (sound-fields _ t.entries).lists_kept)

module _ (ws s list : List ℕ) (x : ℕ) (u : Guid) where
  abbrev call : Call
  call = Call.editing (Edit.enter_exporter x u list)

  -- the row of 3 as three
  left-0 : number call (view (memory ws s))
      ≡ order
      (eqb x 0 gives 3
      ∷ is_live_exporter (view (memory ws s)) x gives 3
      ∷ (same_guid u nil || some (same_guid u) (ipids (view (memory ws s)))) gives 3
      ∷ list_refusals list (view (memory ws s)))
  unfolding number refusals
  left-0 = identifier-rows (eqb x 0) (is_live_exporter (view (memory ws s)) x) _ 3 _

  zero : x ≡ 0 → 3 ≡ number call (view (memory ws s))
  zero h = row_gives _ _ _ left-0 (eq-eqb _ 0 h)

  module _ (given : x ≡ 0 → ⊥) (n : ℕ) (counted : n ≡ exporter_count ws) (r : ℕ) where
    live : r < n → Holds (λ e. r ≡ exporter_row e x) ws → 3 ≡ number call (view (memory ws s))
    live h row = row_gives _ _ _ (row-passes _ _ _ left-0 (ne_eqb _ 0 given)) (exporter-tested ws s x (row s) counted ∙ lt-ltb _ _ h)

    module _ (new : n ≤ r) (row : Holds (λ e. r ≡ exporter_row e x) ws) (b : Bool) where
      left-2 : number call (view (memory ws s))
          ≡ order ((same_guid u nil || some (same_guid u) (ipids (view (memory ws s)))) gives 3 ∷ list_refusals list (view (memory ws s)))
      left-2 = row-passes _ _ _ (row-passes _ _ _ left-0 (ne_eqb _ 0 given)) (exporter-tested ws s x (row s) counted ∙ le-ltb _ _ new)

      taken : b ≡ true → Holds (λ e. b ≡ (same_guid u nil || some (same_guid u) (ipids e))) ws → 3 ≡ number call (view (memory ws s))
      taken h judged = row_gives _ _ _ left-2 (sym (judged s) ∙ h)

      rest : b ≡ false → Holds (λ e. b ≡ (same_guid u nil || some (same_guid u) (ipids e))) ws → (k : ℕ) → k ≡ order (list_refusals list (view (memory ws s)))
          → k ≡ number call (view (memory ws s))
      rest h judged k e = e ∙ sym (row-passes _ _ _ left-2 (sym (judged s) ∙ h))

pub returns-then-oxid-eq0 : goal.returns-then-oxid-eq0
returns-then-oxid-eq0 c = search zero

pub returns-then-exporter_row-exporter_count : goal.returns-then-exporter_row-exporter_count
returns-then-exporter_row-exporter_count c = search live

pub returns-then-ipid_taken : goal.returns-then-ipid_taken
returns-then-ipid_taken c = search taken

pub list_answer-requires : goal.list_answer-requires
list_answer-requires c = search kept

pub returns : goal.returns
returns c = search rest
