-- Bits of a word.
use Rattle.std.proofs.Common.{◌≡◌, ℕ, zero, suc, ◌+◌, ◌-◌, ◌*◌, ◌/◌, ◌%◌, ◌^◌, ◌<◌, ◌≤◌, true, false, eqb, sym, ap, ◌∙◌, ⊎_elim, mod-lt, div-lt_iff_lt-mul, one-mul, add-one, arith, pow_pos, pow-add, shl_exact, shr-shr, shr_lt, eq-eqb, ne_eqb}
use lib.Pow.{shr_le, high, low, field, mod-mod-pow}
use Rattle.table_columns.specs.Members.{bit_of, put_bit, cut_bit}
use Rattle.lists.proofs.Tests.{same_or_not, below_or_not}

-- the bits of a word shifted down
pub bit_shifted : (w k j : ℕ) → bit_of (w / 2 ^ k) j ≡ bit_of w (k + j)
unfolding bit_of
bit_shifted w k j = ap (λ (n : ℕ). eqb (n % 2) 1) (shr-shr w k j)

-- the bits below k are those of w % 2 ^ k
pub low_bit : (x w j k : ℕ) → j < k → x % 2 ^ k ≡ w % 2 ^ k → bit_of x j ≡ bit_of w j
unfolding bit_of
low_bit x w j k h e =
    let a = k - suc j in
    let q : suc a + j ≡ k = omega arith in
    let f : (n : ℕ) → n / 2 ^ j % 2 ≡ n % 2 ^ k / 2 ^ j % 2 =
    λ n. sym (ap (λ (m : ℕ). m % 2) (ap (λ (m : ℕ). n % 2 ^ m / 2 ^ j) (sym q) ∙ field n (suc a) j)
    ∙ ap (λ (m : ℕ). n / 2 ^ j % 2 ^ m % 2) (sym (add-one a)) ∙ mod-mod-pow (n / 2 ^ j) a 1) in
    ap (λ (n : ℕ). eqb n 1) (f x ∙ ap (λ (m : ℕ). m / 2 ^ j % 2) e ∙ sym (f w))

-- 0 has no bit
pub bit-zero : (j : ℕ) → bit_of 0 j ≡ false
unfolding bit_of
bit-zero j = let e = shr_le 0 j in ne_eqb (0 / 2 ^ j % 2) 1 (omega arith)

-- a word that is 0 once shifted down by k has no bit at k or above
pub none_from : (w k : ℕ) → w / 2 ^ k ≡ 0 → (j : ℕ) → k ≤ j → bit_of w j ≡ false
none_from w k e j h =
    let q : k + (j - k) ≡ j = omega arith in
    ap (bit_of w) (sym q) ∙ sym (bit_shifted w k (j - k)) ∙ ap (λ (x : ℕ). bit_of x (j - k)) e ∙ bit-zero (j - k)

-- a word below 2 ^ n has no bit at n or above
pub bit_past : (w n j : ℕ) → w < 2 ^ n → n ≤ j → bit_of w j ≡ false
bit_past w n j h b =
    let z : 0 + n ≡ n = omega arith in
    let s : w / 2 ^ n < 1 = shr_lt {n = w} 0 n (rw z h) in
    none_from w n (omega arith) j b

-- an odd word has bit 0
first_bit : (w : ℕ) → w % 2 ≡ 1 → bit_of w 0 ≡ true
unfolding bit_of
first_bit w e = eq-eqb (w / 2 ^ 0 % 2) 1 (omega arith)

-- a word that is not 0 has a bit
pub some-bit : (n w : ℕ) → w < 2 ^ n → (w ≡ 0 → ⊥) → (i : ℕ) × (i < n) × (bit_of w i ≡ true)
some-bit zero w h d = absurd (d (omega arith))
some-bit (suc n) w h d =
    ⊎_elim
    (λ (e : w % 2 ≡ 1). (zero, omega arith, first_bit w e))
    (λ (e : w % 2 ≡ 1 → ⊥).
    let r = some-bit n (w / 2) (shr_lt {n = w} n 1 (rw (add-one n) h)) (omega arith) in
    let q : 1 + r.0 ≡ suc r.0 = omega arith in
    (suc r.0, omega arith, ap (bit_of w) (sym q) ∙ sym (bit_shifted w 1 r.0) ∙ r.2))
    (same_or_not (w % 2) 1)

-- a word that is not 0 once shifted down by k has a bit at k or above
pub some-bit-from : (w k : ℕ) → w < 2 ^ 64 → k ≤ 64 → (w / 2 ^ k ≡ 0 → ⊥) → (j : ℕ) × (k ≤ j) × (j < 64) × (bit_of w j ≡ true)
some-bit-from w k b h d =
    let q : 64 - k + k ≡ 64 = omega arith in
    let r = some-bit (64 - k) (w / 2 ^ k) (shr_lt {n = w} (64 - k) k (rw q b)) d in
    (k + r.0, omega arith, omega arith, sym (bit_shifted w k r.0) ∙ r.2)

-- two parts of a word
parts-lt : (a r j k : ℕ) → a < 2 ^ j → r < 2 ^ k → a * 2 ^ k + r < 2 ^ (j + k)
parts-lt a r j k h g = rw (pow-add 2 j k) ((div-lt_iff_lt-mul (pow_pos k)).0 (rw (high a k g) h))

-- the code's unit is 2 ^ k, and nothing wraps
pub unit : (k : ℕ) → k < 64 → (1 * 2 ^ k) % 18446744073709551616 ≡ 2 ^ k
unit k h = shl_exact {a = 1} 1 k 64 (omega arith) (omega arith) ∙ one-mul (2 ^ k)

module _ (w k : ℕ) where
  -- the bits below k are below 2 ^ k
  small : w % 2 ^ k < 2 ^ k
  small = mod-lt w (pow_pos k)

  -- the bits above k
  upper_lt : w < 2 ^ 64 → k < 64 → w / 2 ^ k / 2 < 2 ^ (63 - k)
  upper_lt h g =
      let q : 63 - k + (k + 1) ≡ 64 = omega arith in
      let x : w / 2 ^ (k + 1) < 2 ^ (63 - k) = shr_lt {n = w} (63 - k) (k + 1) (rw q h) in
      let e : w / 2 ^ k / 2 ≡ w / 2 ^ (k + 1) = shr-shr w k 1 in
      rw e x

  -- the word without bit k is below 2 ^ 63
  pub cut-lt : w < 2 ^ 64 → k < 64 → cut_bit w k < 2 ^ 63
  unfolding cut_bit
  cut-lt h g =
      let q : 63 - k + k ≡ 63 = omega arith in
      rw q at (parts-lt (w / 2 ^ k / 2) (w % 2 ^ k) (63 - k) k (upper_lt h g) small)

  -- a bit below k stays
  pub cut_below : (j : ℕ) → j < k → bit_of (cut_bit w k) j ≡ bit_of w j
  unfolding cut_bit
  cut_below j h = low_bit _ w j k h (low (w / 2 ^ k / 2) k small)

  -- bit j of the bits above k
  upper-bit : (j : ℕ) → bit_of (w / 2 ^ k / 2) j ≡ bit_of w (k + (1 + j))
  upper-bit j = bit_shifted (w / 2 ^ k) 1 j ∙ bit_shifted w k (1 + j)

  -- a bit above k moves down by one
  pub cut-from : (j : ℕ) → k ≤ j → bit_of (cut_bit w k) j ≡ bit_of w (suc j)
  unfolding cut_bit
  cut-from j h =
      let a = j - k in
      let q : k + a ≡ j = omega arith in
      let r : k + (1 + a) ≡ suc j = omega arith in
      ap (bit_of (w / 2 ^ k / 2 * 2 ^ k + w % 2 ^ k)) (sym q) ∙ sym (bit_shifted (w / 2 ^ k / 2 * 2 ^ k + w % 2 ^ k) k a)
      ∙ ap (λ (m : ℕ). bit_of m a) (high (w / 2 ^ k / 2) k small) ∙ upper-bit a ∙ ap (bit_of w) r

  module _ (b : ℕ) (one : b < 2) where
    -- the bits from k on, with bit k set to b
    put-upper : w < 2 ^ 64 → k < 64 → w / 2 ^ k / 2 * 2 + b < 2 ^ (64 - k)
    put-upper h g =
        let q : 63 - k + 1 ≡ 64 - k = omega arith in
        rw q at (parts-lt (w / 2 ^ k / 2) b (63 - k) 1 (upper_lt h g) one)

    -- the word with bit k set is below 2 ^ 64
    pub put-lt : w < 2 ^ 64 → k < 64 → put_bit w k b < 2 ^ 64
    unfolding put_bit
    put-lt h g =
        let q : 64 - k + k ≡ 64 = omega arith in
        rw q at (parts-lt (w / 2 ^ k / 2 * 2 + b) (w % 2 ^ k) (64 - k) k (put-upper h g) small)

    -- the bits from k on
    put-past : (j : ℕ) → bit_of (put_bit w k b) (k + j) ≡ bit_of (w / 2 ^ k / 2 * 2 + b) j
    unfolding put_bit
    put-past j = sym (bit_shifted ((w / 2 ^ k / 2 * 2 + b) * 2 ^ k + w % 2 ^ k) k j) ∙ ap (λ (m : ℕ). bit_of m j) (high (w / 2 ^ k / 2 * 2 + b) k small)

    -- bit k is b
    pub put-here : bit_of (put_bit w k b) k ≡ eqb b 1
    unfolding bit_of
    put-here =
        let q : k + 0 ≡ k = omega arith in
        let x = w / 2 ^ k / 2 in
        ap (bit_of (put_bit w k b)) (sym q) ∙ put-past 0 ∙ ap (λ (m : ℕ). eqb m 1) (let z : (x * 2 + b) / 2 ^ 0 % 2 ≡ b = omega arith in z)

    -- another bit stays
    pub put_other : (j : ℕ) → (j ≡ k → ⊥) → bit_of (put_bit w k b) j ≡ bit_of w j
    unfolding put_bit
    put_other j d =
        ⊎_elim
        (λ (h : j < k). low_bit _ w j k h (low (w / 2 ^ k / 2 * 2 + b) k small))
        (λ (h : k ≤ j).
        let a = j - suc k in
        let x = w / 2 ^ k / 2 in
        let q : k + (1 + a) ≡ j = omega arith in
        let e : (x * 2 + b) / 2 ^ 1 ≡ x = omega arith in
        ap (bit_of (put_bit w k b)) (sym q) ∙ put-past (1 + a) ∙ sym (bit_shifted (x * 2 + b) 1 a) ∙ ap (λ (m : ℕ). bit_of m a) e
        ∙ upper-bit a ∙ ap (bit_of w) q)
        (below_or_not j k)
