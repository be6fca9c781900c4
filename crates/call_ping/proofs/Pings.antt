-- The refusals of the pings, row by row.
use Rattle.std.proofs.Common.{◌≡◌, ℕ, ◌-◌, ◌^◌, ◌<◌, ◌≤◌, Bool, true, false, cond, not, ◌||◌, eqb, leb, List, [], ◌∷◌, length, get_or, sym, refl, ap, ◌∙◌, ⊎_elim, arith, le-ltb, eq-eqb, leb-false}
use borrow.Author.Tests.{eqb-false, not-false}
use Rattle.kinds.specs.Refusals.{Row, order, passes, ◌gives◌}
use Rattle.kinds.proofs.Refusing.{ne-differ, eq-differ, passed}
use Rattle.lists.specs.Lists.{every}
use Rattle.lists.proofs.Tests.{true-or-false}
use Rattle.rules.specs.Entries.{PingSet, Entries, set_row, set_places}
use Rattle.rules.specs.Calls.{Call, Edit}
use Rattle.rules.specs.Rules.{no_set, set_of, is_live_set, is_live_object, too_many, stale_sequence, refusals, number}
use Rattle.rules.proofs.ByRow.{set-row}
use Rattle.table_view.specs.View.{sets_of, memory, view}
use Rattle.call_ping.specs.Pinging.{is_ping_set, early_rows, late_rows}
use Rattle.table_view.proofs.Steps.{row_gives, row-passes, two-rows}

-- of a simple ping
pub simple-rows : (s : ℕ) (e : Entries) → number (Call.editing (Edit.simple_ping s)) e ≡ order (eqb s 0 gives 11 ∷ not (is_live_set e s) gives 11 ∷ [])
unfolding number refusals
simple-rows s e = two-rows (eqb s 0) (not (is_live_set e s)) 11 []

-- of a complex ping: its early rows, then the others
complex-rows : (s n : ℕ) (adds dels : List ℕ) (e : Entries)
    → number (Call.editing (Edit.complex_ping s n adds dels)) e ≡ order (passes (order (early_rows s n (length adds) (length dels) e)) ∷ not (every (is_live_object e) adds) gives 5 ∷ late_rows s e)
unfolding number refusals order
complex-rows s n adds dels e =
    parts (too_many adds) (too_many dels) (eqb s 0) (not (is_live_set e s)) (stale_sequence (set_of e s).sequence n) (not (every (is_live_object e) adds))
    (leb set_places (length e.sets)) (eqb e.next (2 ^ 64 - 1))
  where
    parts : (a d z g t l f u : Bool)
        → order ((a || d) gives 10 ∷ cond z (l gives 5 ∷ f gives 9 ∷ u gives 18 ∷ []) (g gives 11 ∷ t gives 12 ∷ l gives 5 ∷ []))
        ≡ order (passes (order (a gives 10 ∷ d gives 10 ∷ cond z [] (g gives 11 ∷ t gives 12 ∷ []))) ∷ l gives 5 ∷ cond z (f gives 9 ∷ u gives 18 ∷ []) [])
    parts true d z g t l f u = refl
    parts false true z g t l f u = refl
    parts false false true g t l f u = refl
    parts false false false true t l f u = refl
    parts false false false false true l f u = refl
    parts false false false false false l f u = refl

module _ (s n : ℕ) (adds dels : List ℕ) (e : Entries) where
  -- an early row refuses it
  pub early-gives : (order (early_rows s n (length adds) (length dels) e) ≡ 0 → ⊥) → order (early_rows s n (length adds) (length dels) e) ≡ number (Call.editing (Edit.complex_ping s n adds dels)) e
  early-gives h = row_gives _ _ _ (complex-rows s n adds dels e) (ne-differ _ 0 h)

  module _ (early : order (early_rows s n (length adds) (length dels) e) ≡ 0) where
    left : number (Call.editing (Edit.complex_ping s n adds dels)) e ≡ order (not (every (is_live_object e) adds) gives 5 ∷ late_rows s e)
    left = row-passes _ _ _ (complex-rows s n adds dels e) (eq-differ _ 0 early)

    -- none does: an id to be added is not live
    pub dead-gives : every (is_live_object e) adds ≡ false → 5 ≡ number (Call.editing (Edit.complex_ping s n adds dels)) e
    dead-gives d = row_gives _ _ _ left (ap not d)

    -- all are
    pub late-left : every (is_live_object e) adds ≡ true → number (Call.editing (Edit.complex_ping s n adds dels)) e ≡ order (late_rows s e)
    late-left a = row-passes _ _ _ left (ap not a)

module _ (s n adds dels : ℕ) (e : Entries) where
  -- of a set other than 0, where neither list is too long
  abbrev pub live_rows : List Row
  live_rows = not (is_live_set e s) gives 11 ∷ stale_sequence (set_of e s).sequence n gives 12 ∷ []

  pub short-rows : adds ≤ 65535 → dels ≤ 65535 → order (early_rows s n adds dels e) ≡ order (cond (eqb s 0) [] live_rows)
  short-rows a d = row-passes _ _ _ (row-passes _ _ _ refl (le-ltb 65535 adds a)) (le-ltb 65535 dels d)

  -- no early row refuses it: the set is 0 or live
  pub early-named : order (early_rows s n adds dels e) ≡ 0 → is_ping_set s e ≡ true
  early-named z =
      let left = (passed _ 10 _ (omega arith) (passed _ 10 _ (omega arith) z).1).1 in
      ⊎_elim
      (λ (t : eqb s 0 ≡ true). rw t refl)
      (λ (f : eqb s 0 ≡ false). rw f (let rows : order live_rows ≡ 0 = rw f at left in not-false _ (passed _ 11 _ (omega arith) rows).0))
      (true-or-false (eqb s 0))

-- no other row refuses it: for set 0 there is a place, and a number
pub late-fits : (s : ℕ) (e : Entries) → order (late_rows s e) ≡ 0 → s ≡ 0 → (length e.sets < set_places) × (e.next ≡ 2 ^ 64 - 1 → ⊥)
late-fits s e z h =
    let full : order (leb set_places (length e.sets) gives 9 ∷ eqb e.next (2 ^ 64 - 1) gives 18 ∷ []) ≡ 0 = rw (eq-eqb s 0 h) at z in
    let used = (passed _ 9 _ (omega arith) full).1 in
    (leb-false set_places (length e.sets) (passed _ 9 _ (omega arith) full).0, eqb-false _ _ (passed _ 18 _ (omega arith) used).0)

-- the sequence number in the row that was found
pub stale-tested : (ws st : List ℕ) (s n : ℕ) {r q : ℕ} {b : Bool} → r ≡ set_row (view (memory ws st)) s → q ≡ (get_or (sets_of ws) r no_set).sequence → b ≡ stale_sequence q n
    → stale_sequence (set_of (view (memory ws st)) s).sequence n ≡ b
stale-tested ws st s n {r} found held judged =
    ap (λ (p : PingSet). stale_sequence p.sequence n) (set-row (view (memory ws st)) s ∙ ap (λ (k : ℕ). get_or (sets_of ws) k no_set) (sym found))
    ∙ ap (λ (k : ℕ). stale_sequence k n) (sym held)
    ∙ sym judged
