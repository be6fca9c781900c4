-- `call_ping::early_answer`: the rows in turn, for set 0 and for another set.
use Rattle.std.proofs.Common.{◌≡◌, ℕ, ◌<◌, ◌≤◌, Bool, true, false, cond, eqb, List, [], get_or, drop, refl, ◌∙◌, le-ltb, lt-ltb, eq-eqb, ne_eqb}
use Rattle.kinds.specs.Refusals.{order}
use Rattle.rules.specs.Entries.{set_row}
use Rattle.rules.specs.Rules.{no_set, stale_sequence}
use Rattle.table_view.specs.View.{set_count, sets_of, memory, view, Holds}
use Rattle.table_view.proofs.Steps.{row_gives, row-passes, gone-gives, live-passes, rows_end, set_tested}
use Rattle.call_ping.specs.Pinging.{early_rows}
use Rattle.call_ping.proofs.Pings.{live_rows, short-rows, stale-tested}
use Rattle.call_ping.proofs.early_answer.Goals as goal

module _ (ws st : List ℕ) (s n adds dels : ℕ) where
  abbrev early : ℕ
  early = order (early_rows s n adds dels (view (memory ws st)))

  -- the rows of a set other than 0 that are left after the first k
  abbrev Left : ℕ → Type 0
  Left k = early ≡ order (drop k (live_rows s n adds dels (view (memory ws st))))

  many-adds : 65535 < adds → 10 ≡ early
  many-adds h = row_gives _ _ _ refl (lt-ltb 65535 _ h)

  module _ (a : adds ≤ 65535) where
    many-dels : 65535 < dels → 10 ≡ early
    many-dels h = row_gives _ _ _ (row-passes _ _ _ refl (le-ltb 65535 _ a)) (lt-ltb 65535 _ h)

    module _ (d : dels ≤ 65535) where
      tested : {b : Bool} → eqb s 0 ≡ b → early ≡ order (cond b [] (live_rows s n adds dels (view (memory ws st))))
      tested e = short-rows s n adds dels (view (memory ws st)) a d ∙ rw e

      new-set : s ≡ 0 → 0 ≡ early
      new-set z = rows_end (tested (eq-eqb s 0 z))

      module _ (z : s ≡ 0 → ⊥) (k r : ℕ) (counted : k ≡ set_count ws) where
        gone : k ≤ r → Holds (λ e. r ≡ set_row e s) ws → 11 ≡ early
        gone h row = gone-gives (set_tested ws st s (row st) counted) _ _ (tested (ne_eqb s 0 z)) h

        module _ (live : r < k) (row : Holds (λ e. r ≡ set_row e s) ws) (q : ℕ) (held : q ≡ (get_or (sets_of ws) r no_set).sequence) (b : Bool) (judged : b ≡ stale_sequence q n) where
          left-1 : Left 1
          left-1 = live-passes (set_tested ws st s (row st) counted) _ _ (tested (ne_eqb s 0 z)) live

          stale : b ≡ true → 12 ≡ early
          stale h = row_gives _ _ _ left-1 (stale-tested ws st s n (row st) held judged ∙ h)

          done : b ≡ false → 0 ≡ early
          done h = rows_end (row-passes _ _ _ left-1 (stale-tested ws st s n (row st) held judged ∙ h))

pub returns-then-adds-gt-MOST_LISTED : goal.returns-then-adds-gt-MOST_LISTED
returns-then-adds-gt-MOST_LISTED = (λ c s. search many-adds)

pub returns-then-deletes-gt-MOST_LISTED : goal.returns-then-deletes-gt-MOST_LISTED
returns-then-deletes-gt-MOST_LISTED = (λ c s. search many-dels)

pub returns-then-set-eq0 : goal.returns-then-set-eq0
returns-then-set-eq0 = (λ c s. search new-set)

pub returns-then-set_count-i : goal.returns-then-set_count-i
returns-then-set_count-i = (λ c s. search gone)

pub returns-then-is_stale : goal.returns-then-is_stale
returns-then-is_stale = (λ c s. search stale)

pub returns : goal.returns
returns = (λ c s. search done)
