-- Laws of code that judges clause after clause, each over columns of the array.
use Prim.Native.Nat.{ℕ, ◌≤◌}
use mathlib.Core.Path.{◌≡◌, refl, sym, ap, ◌∙◌}
use mathlib.Core.Bool.{Bool, true, false, not, ◌&&◌, and-true, and_assoc, true≢false}
use mathlib.Core.List.{List, [], ◌∷◌, ◌++◌, map}
use mathlib.Core.Logic.{⊎_elim}
use native.Mathlib.Omega.{arith}
use borrow.Author.Tests.{not-true, not-false}
use lib.ListN.{length, take, drop, length-take}
use Rattle.kinds.specs.declared.Guid.{Guid}
use Rattle.lists.specs.Lists.{every, distinct, apart, among, holding}
use Rattle.lists.specs.Guids.{nil, same_guid}
use Rattle.lists.proofs.Tests.{holding-fails, holding-passes, holding-last, true-or-false, and_intro, and_left, and_right}
use Rattle.lists.proofs.Lists.{every_map, every_append}
use Rattle.lists.proofs.Distinct.{distinct_append}
use Rattle.rules.specs.Sound.{proper_guids}
use Rattle.table_judge.specs.Leaves.{Leaves}

-- ---- chains of clauses: t is the outcome of the first clause that is left

module _ {w t b : Bool} (bs : List Bool) (e : w ≡ holding (b ∷ bs)) (q : t ≡ b) where
  -- it does not hold
  pub judged-fails : not t ≡ true → false ≡ w
  judged-fails f = holding-fails b bs e (sym q ∙ not-true t f)

  -- it holds, and the others are left
  pub judged-passes : not t ≡ false → w ≡ holding bs
  judged-passes f = holding-passes b bs e (sym q ∙ not-false t f)

-- it is the last
pub judged-last : {w t b : Bool} → w ≡ holding (b ∷ []) → t ≡ b → t ≡ w
judged-last {w} {t} {b} e q = q ∙ holding-last b e

-- of two lists one after the other
holding-append : (bs cs : List Bool) → holding (bs ++ cs) ≡ (holding bs && holding cs)
unfolding holding
holding-append [] cs = refl
holding-append (b ∷ bs) cs = ap (λ (x : Bool). b && x) (holding-append bs cs) ∙ sym (and_assoc b (holding bs) (holding cs))

-- two tests before clauses
pub clauses-after : (a b s : Bool) (bs : List Bool) → s ≡ holding bs → ((a && b) && s) ≡ holding (a ∷ b ∷ bs)
unfolding holding
clauses-after true b s bs e = ap (λ (x : Bool). b && x) e
clauses-after false b s bs e = refl

-- clauses that are judged at once, before others
module _ (bs cs : List Bool) {t : Bool} (q : t ≡ holding bs) where
  -- one does not hold
  pub clauses-fail : not t ≡ true → false ≡ holding (bs ++ cs)
  clauses-fail f = let e : holding bs ≡ false = sym q ∙ not-true t f in sym (holding-append bs cs ∙ rw e)

  -- all hold, and the others decide
  pub clauses-pass : not t ≡ false → {r : Bool} → r ≡ holding cs → r ≡ holding (bs ++ cs)
  clauses-pass f p = let e : holding bs ≡ true = sym q ∙ not-false t f in p ∙ sym (holding-append bs cs ∙ rw e)

-- the last two are judged at once
pub judged-both : {w t : Bool} (a b : Bool) → w ≡ holding (a ∷ b ∷ []) → t ≡ (a && b) → t ≡ w
unfolding holding
judged-both a b e q = q ∙ sym (e ∙ ap (λ (x : Bool). a && x) (and-true b))

-- ---- columns that code lends

module _ {A : Type 0} (f : A → ℕ) (xs : List A) {col : List ℕ} (q : col ≡ map f xs) {t : Bool} where
  -- a test of a column is a test of the field
  pub column-test : (p : ℕ → Bool) → t ≡ every p col → t ≡ every (λ x. p (f x)) xs
  column-test p e = e ∙ ap (every p) q ∙ every_map p f xs

  -- the words of a column stand in another
  pub column-in : {b ids : List ℕ} → b ≡ ids → t ≡ every (among b) col → t ≡ every (λ x. among ids (f x)) xs
  column-in {b} {ids} r e = column-test (among ids) (e ∙ ap (λ (y : List ℕ). every (among y) col) r)

-- a column of n words, of which there are at most m
pub column-short : (ws : List ℕ) (first : ℕ) {n m : ℕ} {col : List ℕ} → col ≡ take n (drop first ws) → n ≤ m → length col ≤ m
column-short ws first {n} e h = rw e (omega (arith, length-take n (drop first ws)))

-- ---- the index that is left

-- none is promised
pub leaves-not : {rows ws : List ℕ} → Leaves false rows ws
leaves-not = record { index = λ t. absurd (true≢false (sym t)) }

-- the one that a part of the judgement left
pub leaves-where : {t r : Bool} {rows ws : List ℕ} → Leaves t rows ws → not t ≡ false → Leaves r rows ws
leaves-where {t} p h = record { index = λ z. p.index (not-false t h) }

-- ---- identifiers of two lists

-- a GUID is not nil
abbrev not_nil : Guid → Bool
not_nil g = not (same_guid g nil)

module _ (xs ys : List Guid) where
  -- those of the second are not proper
  pub second-not : proper_guids ys ≡ false → false ≡ proper_guids (xs ++ ys)
  second-not f =
      ⊎_elim
      (λ t.
      let named = and_left (every not_nil (xs ++ ys)) (distinct same_guid (xs ++ ys)) t in
      let differ = sym (distinct_append same_guid xs ys) ∙ and_right (every not_nil (xs ++ ys)) (distinct same_guid (xs ++ ys)) t in
      absurd
      (true≢false
      (sym
      (and_intro (every not_nil ys) (distinct same_guid ys)
      (and_right (every not_nil xs) (every not_nil ys) (sym (every_append not_nil xs ys) ∙ named))
      (and_right (distinct same_guid xs) (distinct same_guid ys) (and_left (distinct same_guid xs && distinct same_guid ys) (apart same_guid xs ys) differ)))
      ∙ f)))
      (λ g. sym g)
      (true-or-false (proper_guids (xs ++ ys)))

  -- they are; then the first are proper before them where all are
  pub both-proper : proper_guids ys ≡ true → {r : Bool} → r ≡ (every not_nil xs && distinct same_guid (xs ++ ys)) → r ≡ proper_guids (xs ++ ys)
  both-proper t q = q ∙ rw (every_append not_nil xs ys, and_left (every not_nil ys) (distinct same_guid ys) t, and-true (every not_nil xs))
