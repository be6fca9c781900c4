-- `call_ping::late_answer`: the rows of a set that is made.
use Rattle.std.proofs.Common.{◌≡◌, ℕ, ◌-◌, ◌^◌, ◌<◌, ◌≤◌, eqb, leb, List, [], ◌∷◌, ◌∙◌, eq-eqb, ne_eqb, le-leb}
use borrow.Author.Tests.{lt-leb}
use Rattle.kinds.specs.Refusals.{order, ◌gives◌}
use Rattle.rules.specs.Entries.{set_places}
use Rattle.table_view.specs.View.{set_count, sets_of, next_of, memory, view}
use Rattle.table_view.proofs.LiveRows.{sets-length}
use Rattle.table_view.proofs.Steps.{row_gives, row-passes, rows_end, full-tested}
use Rattle.call_ping.specs.Pinging.{late_rows}
use Rattle.call_ping.proofs.late_answer.Goals as goal

module _ (ws st : List ℕ) (s : ℕ) where
  abbrev late : ℕ
  late = order (late_rows s (view (memory ws st)))

  named : (s ≡ 0 → ⊥) → 0 ≡ late
  named z = rows_end (rw (ne_eqb s 0 z))

  module _ (z : s ≡ 0) (n : ℕ) (counted : n ≡ set_count ws) where
    new-left : late ≡ order (leb set_places n gives 9 ∷ eqb (next_of ws) (2 ^ 64 - 1) gives 18 ∷ [])
    new-left = rw (eq-eqb s 0 z, full-tested (sets_of ws) set_places (sets-length ws) counted)

    full : set_places ≤ n → 9 ≡ late
    full h = row_gives _ _ _ new-left (le-leb set_places n h)

    module _ (room : n < set_places) (k : ℕ) (read : k ≡ next_of ws) where
      next-left : late ≡ order (eqb k (2 ^ 64 - 1) gives 18 ∷ [])
      next-left = row-passes _ _ _ new-left (lt-leb set_places n room) ∙ rw read

      used-up : k ≡ 18446744073709551615 → 18 ≡ late
      used-up h = row_gives _ _ _ next-left (eq-eqb _ _ h)

      done : (k ≡ 18446744073709551615 → ⊥) → 0 ≡ late
      done h = rows_end (row-passes _ _ _ next-left (ne_eqb _ _ h))

pub returns-then-set-ne0 : goal.returns-then-set-ne0
returns-then-set-ne0 = (λ c s. search named)

pub returns-then-set_count-ge-SET_PLACES : goal.returns-then-set_count-ge-SET_PLACES
returns-then-set_count-ge-SET_PLACES = (λ c s. search full)

pub returns-then-next_set-eq18446744073709551615 : goal.returns-then-next_set-eq18446744073709551615
returns-then-next_set-eq18446744073709551615 = (λ c s. search used-up)

pub returns : goal.returns
returns = (λ c s. search done)
