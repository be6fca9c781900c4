-- `call_ping::simple_ping_step`: set 0 is refused, then a set that is not live; else the set's row is pinged.
use Rattle.std.proofs.Common.{◌≡◌, ℕ, ◌<◌, ◌≤◌, not, List, [], ◌∷◌, length, sym, refl, ap, ◌∙◌, arith, eq-eqb, ne_eqb}
use Rattle.kinds.specs.Refusals.{order, ◌gives◌}
use Rattle.rules.specs.Calls.{Call, Edit, numbered}
use Rattle.rules.specs.Entries.{Entries, set_row}
use Rattle.rules.specs.Rules.{is_live_set, number, results, refused_reply, accepted_reply}
use Rattle.rules.specs.PingRows.{pinged_row}
use Rattle.rules.proofs.PingRows.{simple-ping-row}
use Rattle.table_view.specs.View.{set_count, memory, view, Holds, SoundTable, Stepped}
use Rattle.table_view.proofs.LiveRows.{sets-length}
use Rattle.table_view.proofs.Steps.{whole, row_below, refused-step, accepted-step, row_gives, row-passes, gone-gives, live-passes, rows_end, set_tested}
use Rattle.table_edit.specs.Edits.{Became}
use Rattle.call_ping.proofs.Taking.{oids-proper}
use Rattle.call_ping.proofs.Pings.{simple-rows}
use Rattle.call_ping.proofs.simple_ping_step.Goals as goal

module _ (ws s : List ℕ) (x : ℕ) where
  zero : x ≡ 0 → Stepped (Call.editing (Edit.simple_ping x)) (memory ws s) (numbered 11) (memory ws s)
  unfolding refused_reply results
  zero z = refused-step 11 (row_gives _ _ _ (simple-rows _ _) (eq-eqb _ 0 z)) (λ z. omega arith)

  module _ (given : x ≡ 0 → ⊥) (n r : ℕ) (counted : n ≡ set_count ws) where
    left : number (Call.editing (Edit.simple_ping x)) (view (memory ws s)) ≡ order (not (is_live_set (view (memory ws s)) x) gives 11 ∷ [])
    left = row-passes _ _ _ (simple-rows _ _) (ne_eqb _ 0 given)

    gone : n ≤ r → Holds (λ e. r ≡ set_row e x) ws → Stepped (Call.editing (Edit.simple_ping x)) (memory ws s) (numbered 11) (memory ws s)
    unfolding refused_reply results
    gone h row = refused-step 11 (gone-gives (set_tested ws s x (row s) counted) _ _ left h) (λ z. omega arith)

    pinged : r < n → Holds (λ e. r ≡ set_row e x) ws → SoundTable (memory ws s) → (ws₁ : List ℕ) → Became (pinged_row r) ws ws₁
        → Stepped (Call.editing (Edit.simple_ping x)) (memory ws s) (numbered 0) (memory ws₁ s)
    unfolding accepted_reply results
    pinged h row t ws₁ pings =
        let e : Entries = view (memory ws s) in
        let found = row s in
        let l = sets-length ws in
        let here : set_row e x < length e.sets = omega arith in
        accepted-step 0 (rows_end (live-passes (set_tested ws s x found counted) _ _ left h)) refl _
        (pings s ∙ ap (λ (k : ℕ). pinged_row k e) found ∙ sym (simple-ping-row e t.entries x here))

pub returns-then-set-eq0 : goal.returns-then-set-eq0
returns-then-set-eq0 c = search zero

pub set_row-i-requires : goal.set_row-i-requires
set_row-i-requires c = search whole

pub set_count-requires : goal.set_count-requires
set_count-requires c = search whole

pub returns-then-set_count-i : goal.returns-then-set_count-i
returns-then-set_count-i c = search gone

pub ping_row-requires : goal.ping_row-requires
ping_row-requires c = search (row_below set_count, oids-proper)

pub returns : goal.returns
returns c = search pinged
