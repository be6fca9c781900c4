-- The numbers under the buckets of elements, which are not 0.
use Prim.Native.Nat.{ℕ, ◌<◌}
use mathlib.Core.Path.{◌≡◌, ◌∙◌}
use mathlib.Core.Bool.{true, not}
use mathlib.Core.List.{List}
use mathlib.Core.Logic.{⊎_elim}
use native.Mathlib.Omega.{arith}
use borrow.Author.Tests.{ne_eqb}
use lib.Dec.{eqb}
use lib.ListN.{get_or, set, replicate, length-set, length-replicate, get_or-replicate}
use lib.Seq.{get_or-set_same, get_or-set_other}
use Rattle.kinds.specs.declared.Guid.{Guid}
use Rattle.lists.proofs.Tests.{same_or_not}
use Rattle.lists.proofs.Lists.{every-mono, every-from-at}
use Rattle.table_columns.specs.Buckets.{guid_bucket, Indexed, word_bucket}

-- one number anywhere
module _ {A : Type 0} (bucket : A → ℕ) (xs : List A) (rows : List ℕ) (b v : ℕ) (m : Indexed bucket rows xs) (h : b < 4096) where
  put : (not (eqb (get_or rows b 0) 0) ≡ true → not (eqb v 0) ≡ true) → Indexed bucket (set rows b v) xs
  put f =
      record {
        size = length-set rows b v ∙ m.size;
        each = every-mono (λ y. not (eqb (get_or rows (bucket y) 0) 0)) (λ y. not (eqb (get_or (set rows b v) (bucket y) 0) 0))
            (λ y t. ⊎_elim
            (λ (e : bucket y ≡ b). rw (e, get_or-set_same rows b v 0 (rw m.size h)) (f (rw e at t)))
            (λ n. rw (get_or-set_other rows b (bucket y) v 0 n) t)
            (same_or_not (bucket y) b)) xs m.each;
      }

  -- in the place of another, 0 for 0 alone
  pub indexed-moved : eqb v 0 ≡ eqb (get_or rows b 0) 0 → Indexed bucket (set rows b v) xs
  indexed-moved q = put (λ t. rw q t)

  pub indexed-noted : 0 < v → Indexed bucket (set rows b v) xs
  indexed-noted z = put (λ t. rw (ne_eqb v 0 (λ e. omega arith)))

-- the same number everywhere
bucket-below : (g : Guid) → guid_bucket g < 4096
unfolding word_bucket
bucket-below g = omega arith

pub indexed-all : (n v : ℕ) (gs : List Guid) → n ≡ 4096 → 0 < v → Indexed guid_bucket (replicate n v) gs
indexed-all n v gs e z =
    record {
      size = length-replicate n v ∙ e;
      each = every-from-at (λ (g : Guid). not (eqb (get_or (replicate n v) (guid_bucket g) 0) 0)) (record { low = 0; high = 0 }) gs
          (λ j h. rw (get_or-replicate n (guid_bucket (get_or gs j (record { low = 0; high = 0 }))) v 0 (rw e (bucket-below _)), ne_eqb v 0 (λ q. omega arith)));
    }
