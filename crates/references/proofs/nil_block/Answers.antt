-- `nil_block`: a case for each identifier.
use Prim.Native.Nat.{ℕ}
use mathlib.Core.Path.{◌≡◌, sym, ◌∙◌}
use mathlib.Core.Bool.{Bool, true, false, not}
use mathlib.Core.List.{List}
use borrow.Author.Tests.{not-true, not-false}
use lib.Dec.{eqb}
use Rattle.fields.specs.Fields.{field}
use Rattle.references.specs.References.{has_nil, block_at}
use Rattle.references.proofs.nil_block.Goals as goal

module _ (s : List ℕ) (x : Bool) (oxid : x ≡ eqb (field s 32 8) 0) where
  by-oxid : x ≡ true → true ≡ has_nil (block_at s 24)
  by-oxid h = rw (sym oxid ∙ h)

  module _ (p : x ≡ false) (o : Bool) (oid : o ≡ eqb (field s 40 8) 0) where
    by-oid : o ≡ true → true ≡ has_nil (block_at s 24)
    by-oid h = rw (sym oxid ∙ p, sym oid ∙ h)

    module _ (q : o ≡ false) (l : Bool) (low : l ≡ eqb (field s 48 8) 0) where
      by-low : not l ≡ true → false ≡ has_nil (block_at s 24)
      by-low h = rw (sym oxid ∙ p, sym oid ∙ q, sym low ∙ not-true _ h)

      by_high : not l ≡ false → (r : Bool) → r ≡ eqb (field s 56 8) 0 → r ≡ has_nil (block_at s 24)
      by_high h r e = rw (sym oxid ∙ p, sym oid ∙ q, sym low ∙ not-false _ h) e

pub returns-then-is_zero : goal.returns-then-is_zero
returns-then-is_zero c = search by-oxid

pub returns-then-is_zero-2 : goal.returns-then-is_zero-2
returns-then-is_zero-2 c = search by-oid

pub returns-then-not-is_zero : goal.returns-then-not-is_zero
returns-then-not-is_zero c = search by-low

pub returns : goal.returns
returns c = search by_high
