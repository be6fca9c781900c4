-- The rows of sets: pinged, updated, found or made, and their members before a ping.
use Rattle.std.proofs.Common.{◌≡◌, ℕ, ◌<◌, true, List, [], map, length, get_or, set, sym, refl, ap, ◌∙◌, arith, length-set, get_or-set_same, set-set, ltb-true, eq-eqb, ne_eqb}
use Rattle.table_columns.specs.declared.members.Members.{Members}
use Rattle.table_columns.proofs.members.Bits.{below_none, members-none}
use Rattle.table_columns.proofs.members.Making.{zero-member}
use Rattle.rules.specs.Entries.{PingSet, Entries, oids, pinged_at, with_sets, with_sequence, with_members, set_row}
use Rattle.rules.specs.Rules.{no_set, make_set, heard_now}
use Rattle.rules.proofs.ByRow.{set-row}
use Rattle.rules.specs.PingRows.{change_set, pinged_row}
use Rattle.table_view.specs.View.{object_count, set_count, sets_of, clock_of, memory, view, Holds, oids_of, member_values, members_at, members_below}
use Rattle.table_edit.specs.Edits.{Became}
use Rattle.table_view.proofs.LiveRows.{sets-length}
use Rattle.table_view.proofs.MemberRows.{oids-length, below_at, row-members}
use Rattle.call_ping.specs.Pinging.{with_ping_set, ping_set_row, is_ping_set, MembersBefore, updated_to}
use Rattle.table_view.proofs.Steps.{set_tested}

-- two changes of a set are one
change-twice : (e : Entries) (i : ℕ) (f g : PingSet → PingSet) → i < length e.sets → change_set i f (change_set i g e) ≡ change_set i (λ p. f (g p)) e
change-twice e i f g h =
    let y : PingSet = g (get_or e.sets i no_set) in
    ap (λ (p : PingSet). with_sets (set (set e.sets i y) i (f p)) e) (get_or-set_same e.sets i y no_set h)
    ∙ ap (λ (l : List PingSet). with_sets l e) (set-set e.sets i y (f y))

-- the members in the row of a set are heard, and the set is pinged
module _ (ws ws₁ : List ℕ) (i : ℕ) (m : Members) (h : i < set_count ws) (held : m ≡ members_at ws i) (heard : Became (λ e. heard_now (member_values (oids e) m) e) ws ws₁) where
  pub heard-row : i < set_count ws₁
  heard-row =
      let l = sets-length ws in
      let k = sets-length ws₁ in
      let sets = ap (λ (e : Entries). length e.sets) (heard ws) in
      omega arith

  pub row-pinged : (k : ℕ) → k ≡ clock_of ws → (ws₂ s : List ℕ) → Became (change_set i (pinged_at k)) ws₁ ws₂
      → view (memory ws₂ s) ≡ pinged_row i (view (memory ws s))
  row-pinged k clock ws₂ s pinged =
      let e : Entries = view (memory ws s) in
      pinged s
      ∙ ap (λ (k : ℕ). change_set i (pinged_at k) (view (memory ws₁ s))) clock
      ∙ ap (change_set i (pinged_at (clock_of ws))) (heard s ∙ ap (λ (ms : List ℕ). heard_now ms e) (ap (member_values (oids e)) held ∙ sym (row-members ws i h)))

-- the set at row i with its members, then with its sequence number
module _ (ws ws₁ : List ℕ) (i : ℕ) (m : Members) (h : i < set_count ws) (put : Became (change_set i (with_members (member_values (oids_of ws) m))) ws ws₁) where
  pub put-row : i < set_count ws₁
  put-row =
      let l = sets-length ws in
      let k = sets-length ws₁ in
      let sets : length (sets_of ws₁) ≡ length (sets_of ws) = ap (λ (e : Entries). length e.sets) (put ws) ∙ length-set (sets_of ws) i _ in
      omega arith

  pub row-updated : (ws₂ s : List ℕ) (n : ℕ) → Became (change_set i (with_sequence n)) ws₁ ws₂ → view (memory ws₂ s) ≡ updated_to i n m (view (memory ws s))
  row-updated ws₂ s n count =
      let e : Entries = view (memory ws s) in
      let b = sets-length ws in
      count s
      ∙ ap (change_set i (with_sequence n)) (put s)
      ∙ change-twice e i (with_sequence n) (with_members (member_values (oids e) m)) (omega arith)

-- a set that is not 0 is live
pub named-row : (ws : List ℕ) (x r : ℕ) → (x ≡ 0 → ⊥) → is_ping_set x (view (memory ws [])) ≡ true → Holds (λ e. r ≡ set_row e x) ws → r < set_count ws
named-row ws x r z named row = ltb-true _ _ (sym (set_tested ws [] x (row []) refl) ∙ (rw (ne_eqb x 0 z) at named))

-- the row of the set, which is made for set 0
module _ (ws s : List ℕ) (x : ℕ) where
  pub made_row : (n : ℕ) → x ≡ 0 → n ≡ set_count ws → n ≡ ping_set_row x (view (memory ws s))
  made_row n z counted = rw (eq-eqb x 0 z) (counted ∙ sym (sets-length ws))

  pub made-set : (ws₁ : List ℕ) → x ≡ 0 → Became make_set ws ws₁ → view (memory ws₁ s) ≡ with_ping_set x (view (memory ws s))
  made-set ws₁ z made = rw (eq-eqb x 0 z) (made s)

  pub named_here : (r : ℕ) → (x ≡ 0 → ⊥) → Holds (λ e. r ≡ set_row e x) ws → r ≡ ping_set_row x (view (memory ws s))
  named_here r z row = rw (ne_eqb x 0 z) (row s)

  pub named-same : (x ≡ 0 → ⊥) → view (memory ws s) ≡ with_ping_set x (view (memory ws s))
  named-same z = rw (ne_eqb x 0 z)

-- set 0 has no member yet
pub before-none : (e : Entries) (s : ℕ) → s ≡ 0 → MembersBefore s e (record { low = 0; high = 0 })
before-none e s z =
    let none : Members = record { low = 0; high = 0 } in
    record {
      values = rw (eq-eqb s 0 z) (ap (map (λ j. get_or (oids e) j 0)) (members-none none (zero-member none refl refl)));
      past = λ j g. zero-member none refl refl j;
    }

-- another has those in its row
pub before-row : (ws st : List ℕ) (x r : ℕ) (m : Members) → m ≡ members_at ws r → (x ≡ 0 → ⊥) → is_ping_set x (view (memory ws [])) ≡ true
    → Holds (λ e. r ≡ set_row e x) ws → members_below ws ≡ true → MembersBefore x (view (memory ws st)) m
before-row ws st x r m held z named row below =
    let e : Entries = view (memory ws st) in
    let h = named-row ws x r z named row in
    let n = oids-length ws in
    record {
      values =
          rw (ne_eqb x 0 z)
          (ap (λ (k : Members). member_values (oids e) k) held
          ∙ sym (row-members ws r h)
          ∙ ap (λ (k : ℕ). (get_or (sets_of ws) k no_set).members) (row st)
          ∙ ap (λ (p : PingSet). p.members) (sym (set-row e x)));
      past = λ j g. rw held (below_none (object_count ws) (members_at ws r) (below_at ws below r h) j (omega arith));
    }
