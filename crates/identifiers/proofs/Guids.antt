-- Laws of GUIDs that are entered before others.
use Prim.Native.Nat.{ℕ, ◌-◌, ◌<◌, ◌≤◌}
use mathlib.Core.Path.{◌≡◌, sym, ap, ◌∙◌}
use mathlib.Core.Bool.{Bool, true, false, not, ◌&&◌, true≢false}
use mathlib.Core.List.{List, [], ◌∷◌, ◌++◌, append-nil}
use native.Mathlib.Omega.{arith}
use lib.ListN.{length, drop, length-drop}
use lib.Seq.{drop-append-le}
use Rattle.kinds.specs.declared.Guid.{Guid}
use Rattle.lists.specs.Lists.{every, some, distinct}
use Rattle.lists.specs.Guids.{nil, same_guid}
use Rattle.lists.proofs.Tests.{and_intro, and_right}
use Rattle.lists.proofs.Lists.{every_append}
use Rattle.lists.proofs.Guids.{guid-decides}
use Rattle.table_columns.specs.Buckets.{guid_bucket, low_bucket, Indexed}
use Rattle.table_columns.specs.Guids.{guid_at, guids}
use Rattle.identifiers.specs.Index.{guid_noted, NumberOf, Entering, Entered}
use Rattle.identifiers.proofs.Noting.{Before, each-indexed, not_named, not-different}

-- a number below 255 leads to the GUID whose row it was made of
pub leads-here : {rows lows highs lows2 highs2 : List ℕ} {from : ℕ} → Entering rows lows highs lows2 highs2 from → {g : Guid} (i : ℕ) → g ≡ guid_at lows highs (i - 1) → 0 < i
    → {r : ℕ} → NumberOf i from r → r < 255 → same_guid g (guid_at lows2 highs2 (r - 1)) ≡ true
leads-here {lows2 = lows2} {highs2 = highs2} s {g} i e p n h =
    let q = n.row h in
    rw (q.0, e ∙ s.alike (i - 1) (omega arith)) (guid-decides.self (guid_at lows2 highs2 (i - 1)))

module _ (lows highs lows2 highs2 : List ℕ) (from : ℕ) where
  -- the GUIDs of the first columns, and those that are later
  abbrev xs : List Guid
  xs = guids lows highs

  abbrev ys : List Guid
  ys = drop from (guids lows2 highs2)

  -- they are not proper
  entered-not : (rows : List ℕ) → length rows ≡ 4096 → (every (λ g. not (same_guid g nil)) xs && distinct same_guid (xs ++ ys)) ≡ false → Entered lows highs lows2 highs2 from rows false
  entered-not rows l e = record { size = l; judged = sym e; each = λ t. absurd (true≢false (sym t)) }

  module _ (i : ℕ) (rows : List ℕ) (l : length rows ≡ 4096) {g : Guid} {zs : List Guid} (e : drop i xs ≡ g ∷ zs) where
    -- one is nil
    pub entered-nil : same_guid g nil ≡ true → Entered lows highs lows2 highs2 from rows false
    entered-nil t = entered-not rows l (not_named same_guid nil i xs (xs ++ ys) e t)

    -- one stands again after it
    pub entered-repeated : some (same_guid g) (zs ++ ys) ≡ true → Entered lows highs lows2 highs2 from rows false
    entered-repeated t =
        let h : i ≤ length xs = omega (arith, length-drop i xs, ap length e) in
        entered-not rows l (not-different same_guid nil i xs (xs ++ ys) (drop-append-le i xs ys h ∙ ap (λ (zs : List Guid). zs ++ ys) e) t)

  -- all are entered
  pub entered_all : {rows : List ℕ} → length rows ≡ 4096 → Before same_guid nil (guid_noted rows lows2 highs2) xs (xs ++ ys) → Entered lows highs lows2 highs2 from rows true
  entered_all l p =
      record { size = l; judged = sym (and_intro (every (λ g. not (same_guid g nil)) xs) (distinct same_guid (xs ++ ys)) p.named p.differ); each = λ t. p.each }

-- no GUID is later
pub entered-alone : {lows highs lows2 highs2 rows : List ℕ} {from : ℕ} {r : Bool} → drop from (guids lows2 highs2) ≡ [] → Entered lows highs lows2 highs2 from rows r
    → (r ≡ (every (λ g. not (same_guid g nil)) (guids lows highs) && distinct same_guid (guids lows highs))) × (r ≡ true → every (guid_noted rows lows2 highs2) (guids lows highs) ≡ true)
entered-alone e p = (rw (e, append-nil) at p.judged, λ t. rw (e, append-nil) at (p.each t))

-- the buckets of the later ones have numbers
pub later-indexed : {lows highs lows2 highs2 rows : List ℕ} {from : ℕ} {r : Bool} → Entered lows highs lows2 highs2 from rows r → r ≡ true
    → Indexed guid_bucket rows (drop from (guids lows2 highs2))
later-indexed {lows} {highs} {lows2} {highs2} {rows} {from} p t =
    let later = drop from (guids lows2 highs2) in
    let noted = sym (every_append (guid_noted rows lows2 highs2) (guids lows highs) later) ∙ p.each t in
    record {
      size = p.size;
      each = each-indexed guid_bucket low_bucket (λ g i. same_guid g (guid_at lows2 highs2 i)) rows later
          (and_right (every (guid_noted rows lows2 highs2) (guids lows highs)) (every (guid_noted rows lows2 highs2) later) noted);
    }
