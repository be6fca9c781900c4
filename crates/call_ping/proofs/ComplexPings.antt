-- A complex ping: by its early number, what is left of its lists, its late number, and the arrays in between.
use Rattle.std.proofs.Common.{◌≡◌, ℕ, ◌-◌, ◌^◌, ◌<◌, ◌≤◌, true, false, not, ◌&&◌, ◌||◌, eqb, List, [], ◌∷◌, length, get_or, set, sym, refl, ap, ◌∙◌, ⊎_elim, arith, length-append, length-set, ltb-true}
use lib.Seq.{get_or-append_seam}
use Rattle.kinds.specs.Refusals.{order}
use Rattle.lists.specs.Lists.{keep, among}
use Rattle.table_columns.specs.declared.members.Members.{Members}
use Rattle.lists.proofs.Tests.{true-or-false}
use Rattle.rules.specs.Entries.{PingSet, Entries, oids, with_sets, with_sequence, with_members, set_row, set_places}
use Rattle.rules.specs.Calls.{Call, Edit}
use Rattle.rules.specs.Sound.{proper, sound}
use Rattle.rules.specs.Rules.{no_set, new_members, number, next, results, refused_reply, accepted_reply, ping_set_number}
use Rattle.rules.proofs.SoundLaws.{sound-fields}
use Rattle.rules.proofs.PingingKeeps.{new_set}
use Rattle.rules.proofs.ByRow.{set-live, set-row}
use Rattle.rules.proofs.PingRows.{complex-ping-row, complex-ping-new}
use Rattle.rules.specs.PingRows.{pinged_row, updated_row}
use Rattle.table_view.specs.View.{set_count, sets_of, memory, view, Holds, SoundTable, Stepped, oids_of, next_of, member_values}
use Rattle.table_edit.specs.Edits.{Became}
use Rattle.table_view.proofs.LiveRows.{sets-length}
use Rattle.table_view.proofs.MemberRows.{oids-length}
use Rattle.call_ping.specs.Pinging.{with_ping_set, ping_set_row, is_ping_set, early_rows, late_rows, ping_members, AllListed, MembersBefore, updated_to, Reduced}
use Rattle.std.specs.Prelude.{Some, None}
use Rattle.call_ping.specs.declared.Pinged.{Pinged}
use Rattle.call_ping.specs.Replies.{ping_reply}
use Rattle.table_view.proofs.Steps.{refused-step, accepted-step}
use Rattle.call_ping.proofs.Memberships.{new-members}
use Rattle.call_ping.proofs.Pings.{early-gives, dead-gives, late-left, early-named, late-fits}

-- of both lists
reduced : (s n : ℕ) (adds dels : List ℕ) (e : Entries) {m a d : Members} → proper (oids e) ≡ true → length (oids e) ≤ 128
    → order (early_rows s n (length adds) (length dels) e) ≡ 0 → MembersBefore s e m
    → AllListed true (oids e) adds m (Some a) → AllListed false (oids e) dels a (Some d) → Reduced s n adds dels e d
reduced s n adds dels e {m} {a} {d} p l early before joins leaves =
    record {
      early = early;
      alive = sym joins.live;
      members =
          new-members (oids e) p adds dels m a d l before.past joins.members leaves.members
          ∙ ap (new_members e adds dels) before.values;
    }

-- ---- a complex ping by its early number and its lists

abbrev pub none : ℕ → Pinged
none k = record { answer = k; set = record { 0 = 0 }; backoff = 0 }

-- no row before the ids refuses it, on a sound table
pub record Passed (ws s : List ℕ) (x n : ℕ) (adds dels : List ℕ) : Type 0 where
  pub table : SoundTable (memory ws s)
  pub early : Holds (λ e. order (early_rows x n (length adds) (length dels) e) ≡ 0) ws

module _ (ws s : List ℕ) (x n : ℕ) (adds dels : List ℕ) (a d : ℕ) (more : a ≡ length adds) (fewer : d ≡ length dels) where
  pub passed-early : SoundTable (memory ws s) → Holds (λ e. 0 ≡ order (early_rows x n a d e)) ws → Passed ws s x n adds dels
  passed-early t early = record { table = t; early = λ st. rw (more, fewer) at (sym (early st)) }

  pub early-refused : (r : ℕ) → (r ≡ 0 → ⊥) → Holds (λ e. r ≡ order (early_rows x n a d e)) ws
      → Stepped (Call.editing (Edit.complex_ping x n adds dels)) (memory ws s) (ping_reply (none r)) (memory ws s)
  unfolding refused_reply results
  early-refused r bad early =
      let h : r ≡ order (early_rows x n (length adds) (length dels) (view (memory ws s))) = rw (more, fewer) at (early s) in
      refused-step r (h ∙ early-gives x n adds dels (view (memory ws s)) (λ z. bad (h ∙ z))) bad

module _ (ws s : List ℕ) (x n : ℕ) (adds dels : List ℕ) (passed : Passed ws s x n adds dels) where
  pub named_set : (st : List ℕ) → is_ping_set x (view (memory ws st)) ≡ true
  named_set st = early-named x n (length adds) (length dels) (view (memory ws st)) (passed.early st)

  module _ (b : Members) where
    -- an id to be added is not live
    pub not_live : AllListed true (oids (view (memory ws s))) adds b None → Stepped (Call.editing (Edit.complex_ping x n adds dels)) (memory ws s) (ping_reply (none 5)) (memory ws s)
    unfolding refused_reply results
    not_live joins = refused-step 5 (dead-gives x n adds dels (view (memory ws s)) (passed.early s) (sym joins.live)) (λ z. omega arith)

    -- what is left of both lists
    pub both-listed : Holds (λ e. MembersBefore x e b) ws → (l : Members) → Holds (λ e. AllListed true (oids e) adds b (Some l)) ws
        → (d : Members) → Holds (λ e. AllListed false (oids e) dels l (Some d)) ws → Reduced x n adds dels (view (memory ws s)) d
    both-listed before l joins d leaves =
        let k = oids-length ws in
        reduced x n adds dels (view (memory ws s)) (sound-fields _ passed.table.entries).objects_proper (omega arith) (passed.early s) (before s) (joins s) (leaves s)

-- ---- a complex ping that is accepted

module _ (s : ℕ) (e : Entries) (sd : sound e ≡ true) (named : is_ping_set s e ≡ true) where
  -- a set other than 0 is live
  live-set : eqb s 0 ≡ false → set_row e s < length e.sets
  live-set f = ltb-true _ _ (sym (set-live e s) ∙ (rw f at named))

  -- the set's row
  row_below : ping_set_row s e < length (with_ping_set s e).sets
  row_below =
      ⊎_elim
      (λ (t : eqb s 0 ≡ true). rw t (let l = length-append e.sets (new_set e ∷ []) in omega arith))
      (λ (f : eqb s 0 ≡ false). rw f (live-set f))
      (true-or-false (eqb s 0))

  -- the objects stay as they were
  meant-oids : oids (with_ping_set s e) ≡ oids e
  meant-oids = ⊎_elim (λ (t : eqb s 0 ≡ true). rw t refl) (λ (f : eqb s 0 ≡ false). rw f refl) (true-or-false (eqb s 0))

  -- the members in its row
  meant-members : ping_members s e ≡ (get_or (with_ping_set s e).sets (ping_set_row s e) no_set).members
  meant-members =
      ⊎_elim
      (λ (t : eqb s 0 ≡ true). rw t (ap (λ (p : PingSet). p.members) (sym (get_or-append_seam e.sets (new_set e) [] no_set))))
      (λ (f : eqb s 0 ≡ false). rw f (ap (λ (p : PingSet). p.members) (set-row e s)))
      (true-or-false (eqb s 0))

  module _ (n : ℕ) (adds dels : List ℕ) where
    -- the set is updated and pinged
    meant-next : pinged_row (ping_set_row s e) (updated_row (ping_set_row s e) n adds dels (with_ping_set s e)) ≡ next (Call.editing (Edit.complex_ping s n adds dels)) e
    meant-next =
        ⊎_elim
        (λ (t : eqb s 0 ≡ true). rw t (sym (complex-ping-new e sd s n adds dels t)))
        (λ (f : eqb s 0 ≡ false). rw f (sym (complex-ping-row e sd s n adds dels f (live-set f))))
        (true-or-false (eqb s 0))

    -- by the members that are left of the lists
    meant-update : (m : Members) → member_values (oids e) m ≡ new_members e adds dels (ping_members s e)
        → updated_to (ping_set_row s e) n m (with_ping_set s e) ≡ updated_row (ping_set_row s e) n adds dels (with_ping_set s e)
    meant-update m left =
        let f : Entries = with_ping_set s e in
        let i : ℕ = ping_set_row s e in
        ap (λ (ms : List ℕ). with_sets (set f.sets i (with_sequence n (with_members ms (get_or f.sets i no_set)))) f)
        (ap (λ (ids : List ℕ). member_values ids m) meant-oids
        ∙ left
        ∙ (λ u. keep (λ (o : ℕ). (among (meant-members u) o || among adds o) && not (among dels o)) (sym meant-oids u)))

-- by the late number
module _ (ws s : List ℕ) (x : ℕ) where
  module _ (r n : ℕ) (adds dels : List ℕ) (m : Members) (left : Reduced x n adds dels (view (memory ws s)) m) (late : Holds (λ e. r ≡ order (late_rows x e)) ws) where
    late-number : r ≡ number (Call.editing (Edit.complex_ping x n adds dels)) (view (memory ws s))
    late-number = late s ∙ sym (late-left x n adds dels (view (memory ws s)) left.early left.alive)

    pub late-refused : (r ≡ 0 → ⊥) → Stepped (Call.editing (Edit.complex_ping x n adds dels)) (memory ws s) (ping_reply (none r)) (memory ws s)
    unfolding refused_reply results
    late-refused bad = refused-step r late-number bad

-- for set 0 there is a place, and a number
pub set-fits : (ws : List ℕ) (x : ℕ) {r : ℕ} → Holds (λ e. r ≡ order (late_rows x e)) ws → r ≡ 0 → x ≡ 0 → next_of ws < 2 ^ 64 → (set_count ws < set_places) × (next_of ws < 2 ^ 64 - 1)
set-fits ws x late z h known =
    let l = sets-length ws in
    let f = late-fits x (view (memory ws ws)) (sym (late ws) ∙ z) h in
    (omega arith, omega arith)

-- the set's row is found or made
pub record RowMade (ws s : List ℕ) (x : ℕ) (ws₁ : List ℕ) (i : ℕ) : Type 0 where
  pub table : SoundTable (memory ws s)
  pub named : is_ping_set x (view (memory ws s)) ≡ true
  pub row : Holds (λ e. i ≡ ping_set_row x e) ws
  pub meant : Became (with_ping_set x) ws ws₁

module _ {ws s ws₁ : List ℕ} {x i : ℕ} (made : RowMade ws s x ws₁ i) where
  abbrev before : Entries
  before = view (memory ws s)

  -- what the update asks
  pub update-asked : i < set_count ws₁
  update-asked =
      let l = sets-length ws₁ in
      let sets = ap (λ (f : Entries). length f.sets) (made.meant s) in
      let b = row_below x before made.table.entries made.named in
      let found = made.row s in
      omega arith

  -- the set is updated
  module _ (n : ℕ) (m : Members) (ws₂ : List ℕ) (updates : Became (updated_to i n m) ws₁ ws₂) where
    -- what the ping asks
    pub still-row : i < set_count ws₂
    still-row =
        let l = sets-length ws₁ in
        let k = sets-length ws₂ in
        let sets : length (sets_of ws₂) ≡ length (sets_of ws₁) = ap (λ (f : Entries). length f.sets) (updates s) ∙ length-set (sets_of ws₁) i _ in
        let a = update-asked in
        omega arith

    pub still-proper : proper (oids_of ws₂) ≡ true
    still-proper =
        let sd = made.table.entries in
        ap (λ (f : Entries). proper (oids f)) (updates s ∙ ap (updated_to i n m) (made.meant s)) ∙ ap proper (meant-oids x before sd made.named) ∙ (sound-fields before sd).objects_proper

    -- and pinged: the entries are those of the rules
    pub pinged-done : (ws₃ : List ℕ) → Became (pinged_row i) ws₂ ws₃ → (adds dels : List ℕ) → Reduced x n adds dels before m
        → (r k : ℕ) → r ≡ 0 → Holds (λ e. r ≡ order (late_rows x e)) ws → k ≡ ping_set_number x (next_of ws)
        → Stepped (Call.editing (Edit.complex_ping x n adds dels)) (memory ws s) (ping_reply (record { answer = 0; set = record { 0 = k }; backoff = 0 })) (memory ws₃ s)
    unfolding accepted_reply results
    pinged-done ws₃ pings adds dels lists r k z late meant =
        let named = made.named in
        let sd = made.table.entries in
        rw meant
        (accepted-step 0 (sym z ∙ late-number ws s x r n adds dels m lists late) refl _
        (pings s
        ∙ ap (pinged_row i) (updates s ∙ ap (updated_to i n m) (made.meant s))
        ∙ ap (λ (k : ℕ). pinged_row k (updated_to k n m (with_ping_set x before))) (made.row s)
        ∙ ap (pinged_row (ping_set_row x before)) (meant-update x before sd named n adds dels m lists.members)
        ∙ meant-next x before sd named n adds dels))
