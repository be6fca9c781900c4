-- Numbers marked by bits.
use Prim.Native.Nat.{ℕ, zero, suc, ◌+◌, ◌-◌, ◌*◌, ◌/◌, ◌%◌, ◌^◌, ◌<◌, ◌≤◌, max}
use mathlib.Core.Path.{◌≡◌, refl, sym, ap, ◌∙◌}
use mathlib.Core.Bool.{true, false, or_comm}
use mathlib.Core.List.{List, [], ◌∷◌}
use mathlib.Core.Logic.{⊎_elim}
use native.Mathlib.Omega.{arith}
use native.Mathlib.Nat.{one-mul, div-eq_of_lt}
use borrow.Author.Tests.{eq-eqb, ne_eqb}
use lib.Bits.{bit_or, or_shr, or_step}
use lib.Pow.{shl_exact, pow-lt, pow-add, shl-shr, shr_le}
use lib.Dec.{eqb}
use lib.ListN.{length, get_or, set, take, replicate, length-set, length-replicate}
use lib.Seq.{take-suc, get_or-set_same, get_or-set_other}
use Rattle.fields.specs.Fields.{field}
use Rattle.lists.specs.Lists.{some, among}
use Rattle.lists.proofs.Lists.{some-cons, some-snoc, length-tabulate, get_d_tabulate}
use Rattle.lists.proofs.Tests.{same_or_not, below_or_not}
use Rattle.bindings.specs.Filter.{words_in, is_marked, Marks}

-- bit j of 2 ^ k
unit-same : (k : ℕ) → 2 ^ k / 2 ^ k % 2 ≡ 1
unit-same k = ap (λ (n : ℕ). n / 2 ^ k % 2) (sym (one-mul (2 ^ k))) ∙ ap (λ (n : ℕ). n % 2) (shl-shr 1 k)

unit-other : (j k : ℕ) → (j ≡ k → ⊥) → 2 ^ k / 2 ^ j % 2 ≡ 0
unit-other j k d =
    ⊎_elim
    (λ (h : j < k).
    let m = k - suc j in
    let q : m + 1 + j ≡ k = omega arith in
    let e : 2 ^ k ≡ 2 ^ (m + 1) * 2 ^ j = ap (λ (n : ℕ). 2 ^ n) (sym q) ∙ pow-add 2 (m + 1) j in
    let s : 2 ^ k / 2 ^ j ≡ 2 ^ (m + 1) = rw e (shl-shr (2 ^ (m + 1)) j) in
    let t = pow-add 2 m 1 in
    omega arith)
    (λ (h : k ≤ j).
    let l : 2 ^ k < 2 ^ j = pow-lt {i = k} {j = j} (omega arith) in
    let z : 2 ^ k / 2 ^ j ≡ 0 = div-eq_of_lt l in
    omega arith)
    (below_or_not j k)

-- a bit that is set, and the others
module _ (w j k : ℕ) where
  or-bit : bit_or w (2 ^ k) / 2 ^ j % 2 ≡ max (w / 2 ^ j % 2) (2 ^ k / 2 ^ j % 2)
  or-bit = let e = or_shr w (2 ^ k) j in let s = or_step (w / 2 ^ j) (2 ^ k / 2 ^ j) in omega arith

  set-bit : j ≡ k → eqb (bit_or w (2 ^ k) / 2 ^ j % 2) 1 ≡ true
  set-bit e =
      let u = unit-same k in
      let o = or-bit in
      let v : 2 ^ k / 2 ^ j % 2 ≡ 1 = rw e u in
      let r : bit_or w (2 ^ k) / 2 ^ j % 2 ≡ 1 = omega arith in
      eq-eqb _ _ r

  other-bit : (j ≡ k → ⊥) → bit_or w (2 ^ k) / 2 ^ j % 2 ≡ w / 2 ^ j % 2
  other-bit d = let u = unit-other j k d in let o = or-bit in omega arith

-- nothing is marked
zeros : (n i : ℕ) → ◌≡◌ {A = ℕ} (get_or (replicate n 0) i 0) 0
zeros zero i = refl
zeros (suc n) zero = refl
zeros (suc n) (suc i) = zeros n i

zero_bit : (w j : ℕ) → w ≡ 0 → eqb (w / 2 ^ j % 2) 1 ≡ false
zero_bit w j e = let s = shr_le w j in ne_eqb (w / 2 ^ j % 2) 1 (omega arith)

pub marks-none : Marks (replicate 1024 0) []
unfolding is_marked some
marks-none = record { size = length-replicate {A = ℕ} 1024 0; each = λ x. zero_bit _ (x % 64) (zeros 1024 (x / 64)) }

-- the code's unit is 2 ^ k, and nothing wraps
pub unit : (k : ℕ) → k < 64 → (1 * 2 ^ k) % 18446744073709551616 ≡ 2 ^ k
unit k h = shl_exact {a = 1} 1 k 64 (omega arith) (omega arith) ∙ one-mul (2 ^ k)

-- one more number
module _ (ms xs : List ℕ) (x : ℕ) (m : Marks ms xs) (h : x < 65536) where
  abbrev next : List ℕ
  next = set ms (x / 64) (bit_or (get_or ms (x / 64) 0) (2 ^ (x % 64)))

  inside : x / 64 < length ms
  inside = let s = m.size in omega arith

  mark-same : (y : ℕ) → y ≡ x → is_marked next y ≡ true
  unfolding is_marked
  mark-same y e =
      rw (e, get_or-set_same ms (x / 64) (bit_or (get_or ms (x / 64) 0) (2 ^ (x % 64))) 0 inside) (set-bit (get_or ms (x / 64) 0) (x % 64) (x % 64) refl)

  mark-other : (y : ℕ) → (y ≡ x → ⊥) → is_marked next y ≡ is_marked ms y
  unfolding is_marked
  mark-other y d =
      ⊎_elim
      (λ (e : y / 64 ≡ x / 64).
      rw (e, get_or-set_same ms (x / 64) (bit_or (get_or ms (x / 64) 0) (2 ^ (x % 64))) 0 inside)
      (ap (λ (n : ℕ). eqb n 1) (other-bit (get_or ms (x / 64) 0) (y % 64) (x % 64) (λ z. d (omega arith)))))
      (λ n. ap (λ (w : ℕ). eqb (w / 2 ^ (y % 64) % 2) 1) (get_or-set_other ms (x / 64) (y / 64) _ 0 n))
      (same_or_not (y / 64) (x / 64))

  pub marks-one : Marks next (x ∷ xs)
  unfolding some
  marks-one =
      record {
        size = length-set ms (x / 64) _ ∙ m.size;
        each = λ y.
            ⊎_elim
            (λ (e : y ≡ x). mark-same y e ∙ sym (rw (eq-eqb y x e)))
            (λ n. mark-other y n ∙ m.each y ∙ sym (rw (ne_eqb y x n)))
            (same_or_not y x);
      }

-- one number more of a list is marked
pub marks-more : (xs ms ms' : List ℕ) (i x : ℕ) → i < length xs → x ≡ get_or xs i 0
    → Marks ms (take i xs) → ((ys : List ℕ) → Marks ms ys → Marks ms' (x ∷ ys)) → Marks ms' (take (i + 1) xs)
marks-more xs ms ms' i x h e marked f =
    let m = f (take i xs) marked in
    let next : i + 1 ≡ suc i = omega arith in
    record {
      size = m.size;
      each = λ y. m.each y ∙ some-cons (eqb y) x (take i xs) ∙ or_comm (eqb y x) (among (take i xs) y) ∙ sym (rw (next, take-suc xs i 0 h, ← e) (some-snoc (eqb y) (take i xs) x));
    }

-- words in bytes
pub words-length : (s : List ℕ) → length (words_in s) ≡ length s / 2
words-length s = length-tabulate (length s / 2) (λ k. field s (2 * k) 2)

pub word_in : (s : List ℕ) (k : ℕ) → k < length s / 2 → get_or (words_in s) k 0 ≡ field s (2 * k) 2
word_in s k h = get_d_tabulate (length s / 2) (λ k. field s (2 * k) 2) 0 k h
