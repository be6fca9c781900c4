-- The clock is set: refused where it would go back; else the sets that are overdue go, then the objects, and what went is counted.
use Prim.Native.Nat.{ℕ, ◌-◌, ◌<◌, ◌≤◌}
use mathlib.Core.Path.{◌≡◌, refl, sym, subst, ap, ◌∙◌}
use mathlib.Core.Bool.{true}
use mathlib.Core.List.{List, [], ◌∷◌}
use native.Mathlib.Omega.{arith}
use borrow.Author.Tests.{lt-ltb, le-ltb}
use lib.Dec.{eqb, ltb}
use lib.ListN.{length, get_or, length-map}
use Rattle.kinds.specs.Refusals.{order}
use Rattle.lists.proofs.Lists.{every-kept, length-keep}
use Rattle.rules.specs.Entries.{Entries, oids, with_clock}
use Rattle.rules.specs.Calls.{Call, Edit}
use Rattle.lists.specs.Lists.{distinct}
use Rattle.rules.specs.Sound.{proper, interface_objects_live, set_members_live, heard_within, pinged_within}
use Rattle.rules.specs.Rules.{refusals, number, next, results, refused_reply, accepted_reply, clock_values}
use Rattle.rules.proofs.SoundLaws.{sound-fields}
use Rattle.rules.proofs.LeavingKeeps.{clock-next}
use Rattle.table_view.specs.View.{object_count, interface_count, set_count, oids_of, members_below, memory, view, Holds, SoundTable, Stepped}
use Rattle.table_edit.specs.Edits.{Became}
use Rattle.table_view.proofs.LiveRows.{objects-length, interfaces-length, sets-length}
use Rattle.table_settle.specs.Leaving.{without_leaving, sets_left}
use Rattle.table_settle.proofs.Settling.{asked}
use Rattle.call_remove.specs.Replies.{clock_reply}
use Rattle.table_settle.specs.declared.Leaving.TheVariants.{Unheard}
use Rattle.table_view.proofs.Steps.{refused-step, accepted-step}

-- the clock would go back
pub clock-back : (ws s : List ℕ) (t k : ℕ) → k ≡ get_or ws 0 0 → t < k
    → Stepped (Call.editing (Edit.clock t)) (memory ws s) (clock_reply (record { answer = 2; exporters = 0; objects = 0; interfaces = 0; sets = 0 })) (memory ws s)
unfolding refused_reply results number refusals order
clock-back ws s t k read l =
    let e : number (Call.editing (Edit.clock t)) (view (memory ws s)) ≡ 2 = rw (ap (ltb t) (sym read) ∙ lt-ltb t _ l) in
    refused-step 2 (sym e) (λ z. omega arith)

-- on a sound table the sets went and the clock was set
pub record Ticked (ws s : List ℕ) (t : ℕ) (ws₂ : List ℕ) : Type 0 where
  pub table : SoundTable (memory ws s)
  pub left : Became (λ e. with_clock t (sets_left t e)) ws ws₂

pub ticked : (ws s : List ℕ) (t : ℕ) (ws₁ ws₂ : List ℕ) → SoundTable (memory ws s) → Became (sets_left t) ws ws₁ → Became (with_clock t) ws₁ ws₂ → Ticked ws s t ws₂
ticked ws s t ws₁ ws₂ h sets clock = record { table = h; left = λ s. clock s ∙ ap (with_clock t) (sets s) }

-- what the settling asks
pub settling-asked : {ws s : List ℕ} {t : ℕ} {ws₂ : List ℕ} → Ticked ws s t ws₂
    → (members_below ws₂ ≡ true) × (distinct eqb (oids_of ws₂) ≡ true) × Holds (λ e. interface_objects_live e ≡ true) ws₂
settling-asked {ws} {s} {t} {ws₂} k =
    let e : Entries = view (memory ws s) in
    let f = sound-fields e k.table.entries in
    let q =
    asked ws₂ s (ap (λ (e : Entries). proper (oids e)) (k.left s) ∙ f.objects_proper)
    (ap set_members_live (k.left s) ∙ every-kept _ (pinged_within t) e.sets f.set_members_live) in
    (q.0, q.1, λ _. ap interface_objects_live (k.left s) ∙ f.interface_objects_live)

-- and the objects too
pub record Settled (ws s : List ℕ) (t : ℕ) (ws₃ : List ℕ) : Type 0 where
  pub table : SoundTable (memory ws s)
  pub gone : Became (λ e. without_leaving (Unheard t) (with_clock t (sets_left t e))) ws ws₃

pub settled : {ws s : List ℕ} {t : ℕ} {ws₂ : List ℕ} → Ticked ws s t ws₂ → (ws₃ : List ℕ) → Became (without_leaving (Unheard t)) ws₂ ws₃ → Settled ws s t ws₃
settled {t = t} k ws₃ settles = record { table = k.table; gone = λ s. settles s ∙ ap (without_leaving (Unheard t)) (k.left s) }

module _ {ws s : List ℕ} {t : ℕ} {ws₃ : List ℕ} (k : Settled ws s t ws₃) where
  abbrev before : Entries
  before = view (memory ws s)

  abbrev left : Entries
  left = without_leaving (Unheard t) (with_clock t (sets_left t before))

  expired : view (memory ws₃ s) ≡ left
  expired = k.gone s

  all-gone : view (memory ws₃ s) ≡ next (Call.editing (Edit.clock t)) before
  all-gone = expired ∙ sym (clock-next before t)

  -- no kind has more entries than before
  fewer : {A : Type 0} (entries : Entries → List A) {n n₃ : ℕ} → length (entries (view (memory ws₃ s))) ≡ n₃ → length (entries before) ≡ n
      → length (entries left) ≤ length (entries before) → n₃ ≤ n
  fewer entries c d l = let a = ap (λ (e : Entries). length (entries e)) expired in omega arith

  pub fewer-objects : {n n₃ : ℕ} → n ≡ object_count ws → n₃ ≡ object_count ws₃ → n₃ ≤ n
  fewer-objects a b = fewer (λ e. e.objects) (objects-length ws₃ ∙ sym b) (objects-length ws ∙ sym a) (length-keep (heard_within t) before.objects)

  pub fewer-interfaces : {n n₃ : ℕ} → n ≡ interface_count ws → n₃ ≡ interface_count ws₃ → n₃ ≤ n
  fewer-interfaces a b = fewer (λ e. e.interfaces) (interfaces-length ws₃ ∙ sym b) (interfaces-length ws ∙ sym a) (length-keep _ before.interfaces)

  pub fewer-sets : {n n₃ : ℕ} → n ≡ set_count ws → n₃ ≡ set_count ws₃ → n₃ ≤ n
  fewer-sets a b = fewer (λ e. e.sets) (sets-length ws₃ ∙ sym b) (sets-length ws ∙ sym a) (rw length-map (length-keep (pinged_within t) before.sets))

  -- the clock is set, and what went is answered
  pub clock-done : (k a b c a₃ b₃ c₃ : ℕ) → k ≡ get_or ws 0 0 → k ≤ t
      → a ≡ object_count ws → b ≡ interface_count ws → c ≡ set_count ws → a₃ ≡ object_count ws₃ → b₃ ≡ interface_count ws₃ → c₃ ≡ set_count ws₃
      → Stepped (Call.editing (Edit.clock t)) (memory ws s) (clock_reply (record { answer = 0; exporters = 0; objects = a - a₃; interfaces = b - b₃; sets = c - c₃ })) (memory ws₃ s)
  unfolding accepted_reply results number refusals order
  clock-done k a b c a₃ b₃ c₃ read l ea eb ec ea₃ eb₃ ec₃ =
      let z : number (Call.editing (Edit.clock t)) before ≡ 0 = rw (ap (ltb t) (sym read) ∙ le-ltb t _ l) in
      let none = ap (λ (e : Entries). length e.exporters) expired in
      let after : Entries = view (memory ws₃ s) in
      let x : length before.exporters - length after.exporters ≡ 0 = omega arith in
      subst (λ (vs : List ℕ). Stepped (Call.editing (Edit.clock t)) (memory ws s) (record { number = 0; values = vs; part = []; buffer = [] }) (memory ws₃ s))
      (ap (clock_values before) (sym all-gone)
      ∙ (λ u.
      x u
      ∷ ((objects-length ws ∙ sym ea) u - (objects-length ws₃ ∙ sym ea₃) u)
      ∷ ((interfaces-length ws ∙ sym eb) u - (interfaces-length ws₃ ∙ sym eb₃) u)
      ∷ ((sets-length ws ∙ sym ec) u - (sets-length ws₃ ∙ sym ec₃) u)
      ∷ []))
      (accepted-step 0 (sym z) refl (memory ws₃ s) all-gone)
