-- `numbers::members_step`: a set that is not live is refused; else the bits in the row that is found for it are its members.
use Prim.Native.Nat.{ℕ, ◌<◌, ◌≤◌}
use mathlib.Core.Path.{◌≡◌, refl, sym, ap, ◌∙◌}
use mathlib.Core.List.{List}
use native.Mathlib.Omega.{arith}
use lib.ListN.{length, get_or, length-map}
use Rattle.table_columns.specs.Members.{member_rows}
use Rattle.table_columns.specs.declared.members.Members.{Members}
use Rattle.rules.specs.Entries.{PingSet, set_row}
use Rattle.rules.specs.Calls.{Call, Look}
use Rattle.rules.specs.Rules.{no_set, set_of, refusals, number, next, results, refused_reply, accepted_reply}
use Rattle.rules.proofs.ByRow.{set-row}
use Rattle.table_view.specs.View.{set_count, sets_of, memory, view, Holds, Stepped, members_at}
use Rattle.table_view.proofs.MemberRows.{row-members}
use Rattle.table_view.proofs.Steps.{refused-step, accepted-step, gone-gives, live-passes, rows_end, set_tested}
use Rattle.call_look.specs.Replies.{members_reply}
use Rattle.call_look.proofs.numbers.members_step.Goals as goal

-- the row that was found, of as many as were counted
module _ (ws s : List ℕ) (x n r : ℕ) (counted : n ≡ set_count ws) where
  gone : n ≤ r → Holds (λ e. r ≡ set_row e x) ws → Stepped (Call.looking (Look.members x)) (memory ws s) (members_reply (record { answer = 11; count = 0 })) (memory ws s)
  unfolding number refusals refused_reply results
  gone h row = refused-step 11 (gone-gives (set_tested ws s x (row s) counted) _ _ refl h) (λ z. omega arith)

  -- the bits of its row are the members of the set
  here : r < n → Holds (λ e. r ≡ set_row e x) ws → (m : Members) → m ≡ members_at ws r → (k : ℕ) → k ≡ length (member_rows m)
      → Stepped (Call.looking (Look.members x)) (memory ws s) (members_reply (record { answer = 0; count = k })) (memory ws s)
  unfolding number refusals accepted_reply results next
  here h row m held k size =
      let members : length (set_of (view (memory ws s)) x).members ≡ k =
      ap (λ (p : PingSet). length p.members) (set-row (view (memory ws s)) x ∙ ap (λ (k : ℕ). get_or (sets_of ws) k no_set) (sym (row s)))
      ∙ ap length (row-members ws r (rw counted at h))
      ∙ length-map (member_rows (members_at ws r)) _
      ∙ (cc) in
      rw (← members) (accepted-step 0 (rows_end (live-passes (set_tested ws s x (row s) counted) _ _ refl h)) refl (memory ws s) refl)

pub returns-then-set_count-i : goal.returns-then-set_count-i
returns-then-set_count-i c = search gone

pub returns : goal.returns
returns c = search here
