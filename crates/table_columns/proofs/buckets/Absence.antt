-- Absence and distinctness by buckets: the same elements share a bucket, so one whose bucket is not marked is not among those whose buckets are.
use Rattle.std.proofs.Common.{◌≡◌, ℕ, zero, suc, Bool, true, false, not, List, [], ◌∷◌, get_or, drop, sym, ap, ◌∙◌, ⊎_elim, true≢false}
use Rattle.lists.specs.Lists.{every, some, distinct}
use Rattle.lists.proofs.Tests.{true-or-false}
use Rattle.lists.proofs.Lists.{every-mono, none-some}
use Rattle.lists.proofs.Distinct.{Decides, distinct_head, distinct_tail}

-- an element that fails what they all pass is not among them
pub absent : {A : Type 0} (same : A → A → Bool) → Decides same → (p : A → Bool) (xs : List A) (x : A) → every p xs ≡ true → p x ≡ false → some (same x) xs ≡ false
absent same dec p xs x m f =
    none-some (same x) xs
    (every-mono p (λ y. not (same x y))
    (λ y t. ⊎_elim
    (λ s. absurd (true≢false (sym t ∙ ap p (sym (dec.sound x y s)) ∙ f)))
    (λ n. ap not n)
    (true-or-false (same x y))) xs m)

-- what stands under the bucket of each element is a mark; one under whose bucket none stands is not among them
pub each-absent : {A B : Type 0} (bucket : A → ℕ) (mark : B → Bool) (d : B) (same : A → A → Bool) → Decides same → (xs : List A) (marks : List B) (x : A)
    → every (λ y. mark (get_or marks (bucket y) d)) xs ≡ true → mark (get_or marks (bucket x) d) ≡ false → some (same x) xs ≡ false
each-absent bucket mark d same dec xs marks x m f = absent same dec (λ y. mark (get_or marks (bucket y) d)) xs x m f

-- ---- distinct elements, from the last to the first

module _ {A : Type 0} (same : A → A → Bool) where
  -- the elements from an index on are distinct where all are
  distinct-drop : (i : ℕ) (xs : List A) → distinct same xs ≡ true → distinct same (drop i xs) ≡ true
  distinct-drop zero xs h = h
  distinct-drop (suc i) [] h = h
  distinct-drop (suc i) (x ∷ xs) h = distinct-drop i xs (distinct_tail same x xs h)

  -- an element that is among those after it
  pub repeated : (i : ℕ) (ys : List A) {x : A} {xs : List A} → drop i ys ≡ x ∷ xs → some (same x) xs ≡ true → false ≡ distinct same ys
  repeated i ys {x} {xs} e t =
      ⊎_elim
      (λ h. absurd (true≢false (sym t ∙ distinct_head same x xs (rw e at (distinct-drop i ys h)))))
      (λ f. sym f)
      (true-or-false (distinct same ys))
