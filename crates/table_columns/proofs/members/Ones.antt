-- The number of members is the number of ones in the two words.
use Rattle.std.proofs.Common.{◌≡◌, ℕ, zero, suc, ◌+◌, ◌-◌, ◌/◌, ◌%◌, ◌^◌, ◌<◌, Bool, cond, List, ◌∷◌, ◌++◌, length, sym, ap, ◌∙◌, ⊎_elim, add-one, arith, length-append, shr_lt, eq-eqb, ne_eqb}
use lib.Count.{ones, ones_step}
use Rattle.lists.specs.Lists.{keep, tabulate}
use Rattle.table_columns.specs.Members.{bit_of, has_member, member_rows, InWords}
use Rattle.table_columns.specs.declared.members.Members.{Members}
use Rattle.lists.proofs.Tests.{true-or-false, same_or_not}
use Rattle.lists.proofs.Lists.{keep_append, tabulate-ext}
use Rattle.table_columns.proofs.members.WordBits.{bit_shifted}
use Rattle.table_columns.proofs.members.Bits.{member-low, member-high}

-- a table in two parts
tabulate-append : {A : Type 0} (a b : ℕ) (f : ℕ → A) → tabulate (a + b) f ≡ tabulate a f ++ tabulate b (λ i. f (a + i))
unfolding tabulate
tabulate-append zero b f = let q : 0 + b ≡ b = omega arith in ap (λ (n : ℕ). tabulate n f) q ∙ tabulate-ext b f (λ i. f (0 + i)) (λ i h. let r : i ≡ 0 + i = omega arith in ap f r)
tabulate-append {A} (suc a) b f =
    let q : suc a + b ≡ suc (a + b) = omega arith in
    ap (λ (n : ℕ). tabulate n f) q
    ∙ ap (λ (l : List A). f zero ∷ l)
    (tabulate-append a b (λ i. f (suc i))
    ∙ ap (λ (l : List A). tabulate a (λ i. f (suc i)) ++ l) (tabulate-ext b (λ i. f (suc (a + i))) (λ i. f (suc a + i)) (λ i h. let r : suc (a + i) ≡ suc a + i = omega arith in ap f r)))

-- the first element that passes counts 1
count-first : {A : Type 0} (p : A → Bool) (n : ℕ) (f : ℕ → A) → length (keep p (tabulate (suc n) f)) ≡ cond (p (f zero)) 1 0 + length (keep p (tabulate n (λ i. f (suc i))))
unfolding tabulate keep
count-first {A} p n f =
    ⊎_elim
    (λ t. ap (λ (b : Bool). length (cond b (f zero ∷ rest) rest)) t ∙ (let q : suc (length rest) ≡ 1 + length rest = omega arith in q) ∙ sym (ap (λ (b : Bool). cond b 1 0 + length rest) t))
    (λ t. ap (λ (b : Bool). length (cond b (f zero ∷ rest) rest)) t ∙ (let q : length rest ≡ 0 + length rest = omega arith in q) ∙ sym (ap (λ (b : Bool). cond b 1 0 + length rest) t))
    (true-or-false (p (f zero)))
  where
    rest : List A
    rest = keep p (tabulate n (λ i. f (suc i)))

-- bit 0 is what is left of a word divided by 2
first_bit : (w : ℕ) → cond (bit_of w zero) 1 0 ≡ w % 2
unfolding bit_of
first_bit w =
    ⊎_elim
    (λ (e : w / 2 ^ 0 % 2 ≡ 1). ap (λ (b : Bool). cond b 1 0) (eq-eqb (w / 2 ^ 0 % 2) 1 e) ∙ (let z : 1 ≡ w % 2 = omega arith in z))
    (λ (e : w / 2 ^ 0 % 2 ≡ 1 → ⊥). ap (λ (b : Bool). cond b 1 0) (ne_eqb (w / 2 ^ 0 % 2) 1 e) ∙ (let z : 0 ≡ w % 2 = omega arith in z))
    (same_or_not (w / 2 ^ 0 % 2) 1)

-- elements that pass as the bits of a word of n bits are as many as its ones
pub bits-ones : {A : Type 0} (p : A → Bool) (n : ℕ) (f : ℕ → A) (w : ℕ) → w < 2 ^ n → ((j : ℕ) → j < n → p (f j) ≡ bit_of w j) → length (keep p (tabulate n f)) ≡ ones w
unfolding tabulate keep ones
bits-ones p zero f w h e = let q : 0 ≡ w = omega arith in ap ones q
bits-ones p (suc n) f w h e =
    count-first p n f
    ∙ (λ u. cond (e zero (omega arith) u) 1 0
    + bits-ones p n (λ i. f (suc i)) (w / 2) (shr_lt {n = w} n 1 (rw (add-one n) h))
    (λ j b. e (suc j) (omega arith) ∙ (let q : suc j ≡ 1 + j = omega arith in ap (bit_of w) q) ∙ sym (bit_shifted w 1 j)) u)
    ∙ ap (λ (k : ℕ). k + ones (w / 2)) (first_bit w)
    ∙ sym (ones_step w)

-- the members are as many as the ones of their words
pub members-ones : (m : Members) → InWords m → length (member_rows m) ≡ ones m.low + ones m.high
unfolding member_rows
members-ones m fits =
    ap (λ (l : List ℕ). length (keep (has_member m) l)) (tabulate-append 64 64 (λ j. j))
    ∙ ap length (keep_append (has_member m) (tabulate 64 (λ j. j)) (tabulate 64 (λ j. 64 + j)))
    ∙ length-append (keep (has_member m) (tabulate 64 (λ j. j))) (keep (has_member m) (tabulate 64 (λ j. 64 + j)))
    ∙ (λ u.
    bits-ones (has_member m) 64 (λ j. j) m.low fits.0 (member-low m) u
    + bits-ones (has_member m) 64 (λ j. 64 + j) m.high fits.1
    (λ j b. let q : 64 + j - 64 ≡ j = omega arith in member-high m (64 + j) (omega arith) (omega arith) ∙ ap (bit_of m.high) q) u)
