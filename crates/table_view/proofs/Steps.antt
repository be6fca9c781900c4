-- What serves every call: the table as it was judged, a refusal, an accepted call; and the rows of refusals, one by one.
use Prim.Native.Nat.{ℕ, ◌<◌, ◌≤◌}
use mathlib.Core.Path.{◌≡◌, refl, sym, ap, ◌∙◌}
use mathlib.Core.Bool.{Bool, true, false, not, ◌||◌}
use mathlib.Core.List.{List, [], ◌∷◌}
use native.Mathlib.Omega.{arith}
use borrow.Author.Tests.{not-true, not-false, lt-ltb, le-ltb}
use lib.ListN.{length, get_or}
use lib.Dec.{ltb, leb}
use Rattle.kinds.specs.Refusals.{Row, order, ◌gives◌}
use Rattle.kinds.specs.declared.Guid.{Guid}
use Rattle.rules.specs.Entries.{Entries, exporter_row, object_row, interface_row, set_row}
use Rattle.rules.specs.Calls.{Call, Reply}
use Rattle.rules.specs.Rules.{is_live_exporter, is_live_object, is_live_interface, is_live_set, no_exporter, exporter_of, number, next, refused_reply, accepted_reply}
use Rattle.rules.specs.Contract.{Memory, Whole, lengths_only}
use Rattle.rules.proofs.Performing.{unsound}
use Rattle.rules.proofs.Stepping as stepping
use Rattle.rules.proofs.Stepping.{performed-step}
use Rattle.rules.proofs.SoundLaws.{sound-fields, table-fields}
use Rattle.rules.proofs.ByRow.{exporter-live, object-live, interface-live, set-live, exporter-row}
use Rattle.table_view.specs.View.{exporter_count, object_count, interface_count, set_count, exporters_of, memory, view, sound_memory, SoundTable, Stepped, Performed, members_below}
use Rattle.table_view.proofs.MemberRows.{live_below}
use Rattle.table_view.proofs.LiveRows.{exporters-length, objects-length, interfaces-length, sets-length}

-- ---- calls

-- the words of a sound table
pub whole : (ws s : List ℕ) → SoundTable (memory ws s) → Whole ws
whole ws s t = t.words

-- the row that was found, of as many as were counted
pub row_below : (count : List ℕ → ℕ) (ws : List ℕ) (n r : ℕ) → n ≡ count ws → r < n → r < count ws
row_below count ws n r counted live = omega arith

module _ {r : Bool} {m : Memory} (judged : r ≡ sound_memory m) where
  -- the table that a call goes on with
  pub sound-table : not r ≡ false → SoundTable m
  sound-table h = table-fields view m (sym judged ∙ not-false r h)

  module _ (c : Call) (looks : lengths_only c ≡ false) where
    -- the table is refused
    pub unsound-call : not r ≡ true → Performed c m (refused_reply 1 c (view m)) m
    unsound-call h = unsound view c m looks (sym judged ∙ not-true r h)

    -- it is not, and the step is the call
    pub stepped-call : not r ≡ false → {x : Reply} {m' : Memory} → Stepped c m x m' → length m'.words ≡ 8192 → length m'.store ≡ 8192 → Performed c m x m'
    stepped-call h s w b = performed-step view c m (sound-table h) s looks w b

-- ---- steps

module _ {c : Call} {m : Memory} (n : ℕ) (e : n ≡ number c (view m)) where
  -- the rules refuse the step
  pub refused-step : (n ≡ 0 → ⊥) → Stepped c m (refused_reply n c (view m)) m
  refused-step z = stepping.refused-step view c m n e z

  -- they accept it
  pub accepted-step : n ≡ 0 → (m' : Memory) → view m' ≡ next c (view m) → Stepped c m (accepted_reply c (view m)) m'
  accepted-step z m' v = stepping.accepted-step view c m m' (sym z ∙ e) v

-- a step that leaves the table is a call that does
pub step_call : {c : Call} {m : Memory} {x : Reply} → lengths_only c ≡ false → SoundTable m → Stepped c m x m → Performed c m x m
step_call {c} {m} looks t s = performed-step view c m t s looks t.words t.store

-- in a sound table every member bit stands at a live object's row
pub sound-below : (ws s : List ℕ) → SoundTable (memory ws s) → members_below ws ≡ true
sound-below ws s t =
    let e : Entries = view (memory ws s) in
    let f = sound-fields e t.entries in
    live_below ws s f.objects_proper f.set_members_live

-- ---- refusals, row by row: w is the number, of which the rows are left

module _ {w : ℕ} (b : Bool) (n : ℕ) (rs : List Row) (e : w ≡ order (b gives n ∷ rs)) where
  -- the test of the first row holds
  pub row_gives : b ≡ true → n ≡ w
  unfolding order
  row_gives t = sym (e ∙ rw t)

  -- it does not
  pub row-passes : b ≡ false → w ≡ order rs
  unfolding order
  row-passes f = e ∙ rw f

-- a row that asks for a live entry: it is live where the row that was found is below the count
module _ {w r n : ℕ} {live : Bool} (found : live ≡ ltb r n) (k : ℕ) (rs : List Row) (e : w ≡ order (not live gives k ∷ rs)) where
  pub gone-gives : n ≤ r → k ≡ w
  gone-gives h = row_gives (not live) k rs e (ap not (found ∙ le-ltb r n h))

  pub live-passes : r < n → w ≡ order rs
  live-passes h = row-passes (not live) k rs e (ap not (found ∙ lt-ltb r n h))

-- no row is left
pub rows_end : {w : ℕ} → w ≡ order [] → 0 ≡ w
unfolding order
rows_end e = sym e

-- a row of two tests is two rows
pub two-rows : (a b : Bool) (n : ℕ) (rs : List Row) → order ((a || b) gives n ∷ rs) ≡ order (a gives n ∷ b gives n ∷ rs)
unfolding order
two-rows true b n rs = refl
two-rows false b n rs = refl

-- an identifier that is zero or live, or an IPID that can't be entered
pub identifier-rows : (a b c : Bool) (n : ℕ) (rs : List Row) → order (((a || b) || c) gives n ∷ rs) ≡ order (a gives n ∷ b gives n ∷ c gives n ∷ rs)
identifier-rows a b c n rs = two-rows (a || b) c n rs ∙ two-rows a b n (c gives n ∷ rs)

-- ---- tests, by row and count

-- live: the row is below the count
pub live-row : {live : Bool} {row entries : ℕ} (r n : ℕ) → live ≡ ltb row entries → r ≡ row → n ≡ entries → live ≡ ltb r n
live-row r n l row count = l ∙ (λ u. ltb (sym row u) (sym count u))

module _ (ws s : List ℕ) {r n : ℕ} where
  pub exporter-tested : (x : ℕ) → r ≡ exporter_row (view (memory ws s)) x → n ≡ exporter_count ws → is_live_exporter (view (memory ws s)) x ≡ ltb r n
  exporter-tested x p t = live-row r n (exporter-live (view (memory ws s)) x) p (t ∙ sym (exporters-length ws s))

  pub object-tested : (o : ℕ) → r ≡ object_row (view (memory ws s)) o → n ≡ object_count ws → is_live_object (view (memory ws s)) o ≡ ltb r n
  object-tested o p t = live-row r n (object-live (view (memory ws s)) o) p (t ∙ sym (objects-length ws))

  pub interface-tested : (i : Guid) → r ≡ interface_row (view (memory ws s)) i → n ≡ interface_count ws → is_live_interface (view (memory ws s)) i ≡ ltb r n
  interface-tested i p t = live-row r n (interface-live (view (memory ws s)) i) p (t ∙ sym (interfaces-length ws))

  pub set_tested : (n' : ℕ) → r ≡ set_row (view (memory ws s)) n' → n ≡ set_count ws → is_live_set (view (memory ws s)) n' ≡ ltb r n
  set_tested n' p t = live-row r n (set-live (view (memory ws s)) n') p (t ∙ sym (sets-length ws))

-- the exporter stands in the row that was found
pub exporter-in-row : (ws s : List ℕ) (x : ℕ) {r : ℕ} → r ≡ exporter_row (view (memory ws s)) x → get_or (exporters_of ws s) r no_exporter ≡ exporter_of (view (memory ws s)) x
exporter-in-row ws s x p = ap (λ (k : ℕ). get_or (exporters_of ws s) k no_exporter) p ∙ sym (exporter-row (view (memory ws s)) x)

-- full: the places are at most the count
pub full-tested : {A : Type 0} (xs : List A) {n n' : ℕ} (places : ℕ) → length xs ≡ n' → n ≡ n' → leb places (length xs) ≡ leb places n
full-tested xs places p t = rw (p, t)
