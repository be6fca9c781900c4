-- Bytes that are no snapshot.
use Prim.Native.Nat.{ℕ, ◌<◌}
use mathlib.Core.Path.{◌≡◌, sym, ap, ◌∙◌}
use mathlib.Core.Bool.{Bool, true, false}
use mathlib.Core.List.{List}
use mathlib.Core.Logic.{⊎_elim}
use native.Mathlib.Omega.{arith}
use lib.ListN.{length}
use Rattle.kinds.proofs.Refusing.{true-false}
use Rattle.fields.specs.Fields.{field}
use Rattle.lists.proofs.Tests.{true-or-false}
use Rattle.rules.specs.Entries.{Entries}
use Rattle.rules.specs.Snapshot.{entries_of, is_snapshot}
use Rattle.rules.specs.Swapping.{longest_snapshot}
use Rattle.rules.proofs.Swapping.{snapshot-fields, snapshot-fits, snapshot-count}
use Rattle.rules.proofs.SnapshotSizes.{snapshot-inside}
use Rattle.snapshot_reader.specs.ReadSections.{TableRead}

-- a test that cannot hold
pub fails : (b : Bool) → (b ≡ true → ⊥) → b ≡ false
fails b h = ⊎_elim (λ t. absurd (h t)) (λ (f : b ≡ false). f) (true-or-false b)

-- bytes that no snapshot is as long as, and another count of numbers
pub too_long_lem : (s : List ℕ) → longest_snapshot < length s → is_snapshot s ≡ false
too_long_lem s h =
    fails (is_snapshot s)
    (λ t.
    let y = snapshot-fields s t in
    let l = snapshot-inside (entries_of s) y.sound (snapshot-fits s t) in
    let e = ap length y.own in
    omega arith)

pub other-count : (s : List ℕ) → (field s 0 2 ≡ 2 → ⊥) → is_snapshot s ≡ false
other-count s h = fails (is_snapshot s) (λ t. h (snapshot-count s t))

pub table-refused : (s : List ℕ) (e : Entries) → is_snapshot s ≡ false → TableRead s false e
table-refused s e h = record { entries = λ t. absurd (true-false (sym t)); refused = λ t. h }

-- a section that was not read, where that of a snapshot fits
pub no-snapshot : (s : List ℕ) (b f : Bool) → b ≡ f → (is_snapshot s ≡ true → f ≡ true) → b ≡ false → is_snapshot s ≡ false
no-snapshot s b f e g z = fails (is_snapshot s) (λ t. true-false (sym (g t) ∙ sym e ∙ z))
