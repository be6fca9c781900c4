-- The rows of a section, one after the other.
use Prim.Native.Nat.{ℕ, zero, suc, ◌+◌, ◌-◌, ◌<◌, ◌≤◌, min}
use mathlib.Core.Path.{◌≡◌, sym, ap, ◌∙◌}
use mathlib.Core.Bool.{true, false}
use mathlib.Core.List.{List, [], ◌∷◌, ◌++◌, append_assoc, append-nil}
use native.Mathlib.Omega.{arith}
use native.Mathlib.Nat.{add-zero}
use lib.ListN.{length, drop, length-drop}
use lib.Seq.{drop-drop}
use Rattle.fields.specs.Fields.{field}
use Rattle.fields.proofs.Fields.{field-drop}
use Rattle.rules.specs.Entries.{Entries}
use Rattle.rules.specs.Snapshot.{Front, read_row}
use Rattle.snapshot_rows.specs.declared.Section.{Section}
use Rattle.snapshot_reader.specs.ReadRows.{with_row, after_row, Left, with_rows, with_section, fits, ReadsRow}
use Rattle.snapshot_reader.specs.ReadSections.{ReadsSection}
use Rattle.snapshot_reader.proofs.rows.RowFields.{drop-within}
use Rattle.snapshot_reader.proofs.rows.SectionFits.{rows-unfit}

-- rows that are read in a row are the entries of a kind
module _ {A : Type 0} (k : Section) (one : List ℕ → Front A) (put : List A → Entries → Entries) (e : Entries)
    (adds : (s : List ℕ) (xs : List A) → with_row k s (put xs e) ≡ put (xs ++ ((one s).value ∷ [])) e)
    (after : (s : List ℕ) → after_row k s ≡ (one s).rest) where
  pub rows-read : (n : ℕ) (s : List ℕ) (xs : List A) → with_rows k n s (put xs e) ≡ record { entries = put (xs ++ (read_row one n s).value) e; rest = (read_row one n s).rest }
  unfolding with_rows read_row
  rows-read zero s xs = λ u. record { entries = put (sym (append-nil xs) u) e; rest = s }
  rows-read (suc n) s xs =
      let t : List ℕ = (one s).rest in
      rw (adds s xs, after s)
      (rows-read n t (xs ++ ((one s).value ∷ []))
      ∙ (λ u. record { entries = put (append_assoc xs ((one s).value ∷ []) (read_row one n t).value u) e; rest = (read_row one n t).rest }))

-- ---- the loop over the rows

-- what is left of n rows after i, from here on, is all of them
pub record RowsLeft (k : Section) (s : List ℕ) (n i at : ℕ) (e : Entries) (all : Left) : Type 0 where
  pub count : i ≤ n
  pub inside : at ≤ length s
  pub fit : fits k e ≡ true
  pub rest : with_rows k (n - i) (drop at s) e ≡ all

module _ {k : Section} {s : List ℕ} {n i at : ℕ} {e : Entries} {all : Left} (w : RowsLeft k s n i at e all) (b : i < n) where
  -- one row off
  one-off : with_rows k (n - i) (drop at s) e ≡ with_rows k (n - (i + 1)) (after_row k (drop at s)) (with_row k (drop at s) e)
  unfolding with_rows
  one-off =
      let m : n - i ≡ suc (n - (i + 1)) = omega arith in
      rw m

  -- a row is read
  pub row-off : {m : ℕ} {e' : Entries} → ReadsRow k (drop at s) e m e' → RowsLeft k s n (i + 1) (at + m) e' all
  row-off {m} h =
      let l = length-drop at s in
      let p = h.inside in
      let q = w.inside in
      let d : drop (at + m) s ≡ after_row k (drop at s) = sym (drop-drop m at s) ∙ h.rest in
      record {
        count = omega arith;
        inside = omega arith;
        fit = ap (fits k) h.entries ∙ h.fit;
        rest = rw (d, h.entries) (sym one-off ∙ w.rest);
      }

  -- a row that does not fit ends it
  pub row-stops : fits k (with_row k (drop at s) e) ≡ false → fits k all.entries ≡ false
  row-stops f =
      ap (λ (x : Left). fits k x.entries) (sym w.rest ∙ one-off)
      ∙ rows-unfit k (n - (i + 1)) (after_row k (drop at s)) (with_row k (drop at s) e) f

module _ (k : Section) (s : List ℕ) where
  -- before the first row
  pub rows-begun : (n at next : ℕ) (e : Entries) → n ≡ field s at 2 → next ≡ min (at + 2) (length s) → fits k e ≡ true → RowsLeft k s n 0 next e (with_section k (drop at s) e)
  rows-begun n at next e c p f =
      let z : n - 0 ≡ n = omega arith in
      let d : drop next s ≡ drop 2 (drop at s) = rw p (drop-within s (at + 2)) ∙ sym (drop-drop 2 at s) in
      let m : field (drop at s) 0 2 ≡ n = field-drop s at 0 2 (omega arith) ∙ rw (add-zero at) (sym c) in
      record { count = omega arith; inside = omega arith; fit = f; rest = rw (z, d, m) }

  -- after the last
  pub rows-ended : (at₀ : ℕ) (e₀ : Entries) (n i at : ℕ) (e : Entries) → RowsLeft k s n i at e (with_section k (drop at₀ s) e₀) → n ≤ i → ReadsSection k s at₀ e₀ at e
  unfolding with_rows
  rows-ended at₀ e₀ n i at e w b =
      let z : n - i ≡ 0 = omega arith in
      let all = rw z at w.rest in
      record {
        fit = sym (ap (λ (x : Left). fits k x.entries) all) ∙ w.fit;
        entries = ap (λ (x : Left). x.entries) all;
        rest = ap (λ (x : Left). x.rest) all;
        inside = w.inside;
      }
