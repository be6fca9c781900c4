-- What the functions over members make and test.
use Rattle.std.proofs.Common.{◌≡◌, ℕ, suc, ◌+◌, ◌-◌, ◌*◌, ◌/◌, ◌%◌, ◌^◌, ◌<◌, ◌≤◌, Bool, true, false, eqb, ltb, refl, sym, ap, ◌∙◌, ⊎_elim, lt_of_le_of_lt, arith, le-ltb, lt-ltb, eq-eqb, ne_eqb}
use Rattle.std.specs.Int.{from_bool}
use lib.Pow.{high, low, shr_le}
use Rattle.lists.specs.Lists.{every, skip}
use Rattle.table_columns.specs.Members.{bit_of, has_member, member_rows, put_bit, cut_bit, InWords, MemberPut, Cut}
use Rattle.table_columns.specs.declared.members.Members.{Members}
use Rattle.lists.proofs.Tests.{same_or_not, below_or_not}
use Rattle.lists.proofs.Lists.{skip_below, skip-from}
use Rattle.table_columns.proofs.members.WordBits.{bit_shifted, low_bit, bit-zero, none_from, some-bit, some-bit-from, cut-lt, cut_below, cut-from, put-lt, put-here, put_other}
use Rattle.table_columns.proofs.members.Bits.{member-low, member-high, member-past, member-from, member-same, below_holds, below_fails}

-- ---- no member

-- no row is a member
pub zero-member : (m : Members) → m.low ≡ 0 → m.high ≡ 0 → (i : ℕ) → has_member m i ≡ false
zero-member m e g i =
    ⊎_elim
    (λ (h : i < 64). member-low m i h ∙ ap (λ (w : ℕ). bit_of w i) e ∙ bit-zero i)
    (λ (h : 64 ≤ i). member-from m (rw g (omega arith)) i h ∙ ap (λ (w : ℕ). bit_of w (i - 64)) g ∙ bit-zero (i - 64))
    (below_or_not i 64)

-- ---- a bit is put

-- the number of a test is 0 or 1
pub bit-of-test : (t : Bool) {b : ℕ} → b ≡ from_bool t → (b < 2) × (eqb b 1 ≡ t)
bit-of-test true e = rw e (omega arith, refl)
bit-of-test false e = rw e (omega arith, refl)

module _ (j b : ℕ) (member : Bool) (is : (b < 2) × (eqb b 1 ≡ member)) (m r : Members) (fits : InWords m) where
  -- row j is put, and the other rows are as they were
  put-made : InWords r → j < 128 → has_member r j ≡ member → ((i : ℕ) → (i ≡ j → ⊥) → has_member r i ≡ has_member m i) → MemberPut j member m r
  put-made w h e f =
      record {
        words = w;
        rows = λ i.
            ⊎_elim
            (λ (q : i ≡ j). ap (has_member r) q ∙ e ∙ sym (rw (lt-ltb j 128 h, eq-eqb i j q)))
            (λ (q : i ≡ j → ⊥). f i q ∙ sym (rw (lt-ltb j 128 h, ne_eqb i j q)))
            (same_or_not i j);
      }

  -- a bit of the low word is put
  pub put_low : j < 64 → r.low ≡ put_bit m.low j b → r.high ≡ m.high → MemberPut j member m r
  put_low h e g =
      put-made (rw e (put-lt m.low j b is.0 fits.0 h), rw g fits.1) (omega arith)
      (member-low r j h ∙ ap (λ (w : ℕ). bit_of w j) e ∙ put-here m.low j b is.0 ∙ is.1)
      (λ i d. member-same m r i (λ c. ap (λ (w : ℕ). bit_of w i) e ∙ put_other m.low j b is.0 i d) (λ c. ap (λ (w : ℕ). bit_of w (i - 64)) g))

  -- a bit of the high word is put
  pub put-high : 64 ≤ j → j < 128 → r.low ≡ m.low → r.high ≡ put_bit m.high (j - 64) b → MemberPut j member m r
  put-high h c g e =
      put-made (rw g fits.0, rw e (put-lt m.high (j - 64) b is.0 fits.1 (omega arith))) c
      (member-high r j h c ∙ ap (λ (w : ℕ). bit_of w (j - 64)) e ∙ put-here m.high (j - 64) b is.0 ∙ is.1)
      (λ i d. member-same m r i (λ c. ap (λ (w : ℕ). bit_of w i) g) (λ c. ap (λ (w : ℕ). bit_of w (i - 64)) e ∙ put_other m.high (j - 64) b is.0 (i - 64) (λ q. d (omega arith))))

-- a row of 128 or more puts nothing
pub put-none : (j : ℕ) (member : Bool) (m : Members) → InWords m → 128 ≤ j → MemberPut j member m m
put-none j member m f h = record { words = f; rows = λ i. rw (le-ltb j 128 h) }

-- ---- a bit is taken out

module _ (k : ℕ) (m r : Members) (fits : InWords m) where
  -- the row that stood at i
  at-skip : (i n : ℕ) → skip k i ≡ n → has_member m n ≡ has_member m (skip k i)
  at-skip i n e = ap (has_member m) (sym e)

  module _ (h : k < 64) (low-is : r.low ≡ m.high % 2 * 2 ^ 63 + cut_bit m.low k) (high_is : r.high ≡ m.high / 2) where
    -- the bits of the low word below 63
    cut_word : (j : ℕ) → j < 63 → bit_of r.low j ≡ bit_of (cut_bit m.low k) j
    cut_word j b =
        let l = cut-lt m.low k fits.0 h in
        let z : 0 * 2 ^ 63 + cut_bit m.low k ≡ cut_bit m.low k = omega arith in
        ap (λ (w : ℕ). bit_of w j) low-is
        ∙ low_bit (m.high % 2 * 2 ^ 63 + cut_bit m.low k) (cut_bit m.low k) j 63 b (low (m.high % 2) 63 l ∙ sym (low 0 63 l) ∙ ap (λ (n : ℕ). n % 2 ^ 63) z)

    -- bit 63 of the low word is bit 0 of the high word
    cut-top : bit_of r.low 63 ≡ bit_of m.high 0
    unfolding bit_of
    cut-top =
        ap (λ (w : ℕ). bit_of w 63) low-is
        ∙ ap (λ (n : ℕ). eqb n 1) (ap (λ (n : ℕ). n % 2) (high (m.high % 2) 63 (cut-lt m.low k fits.0 h)) ∙ (let z : m.high % 2 % 2 ≡ m.high / 2 ^ 0 % 2 = omega arith in z))

    -- the high word moves down by one
    half-bit : (j : ℕ) → bit_of r.high j ≡ bit_of m.high (suc j)
    half-bit j = ap (λ (w : ℕ). bit_of w j) high_is ∙ bit_shifted m.high 1 j ∙ ap (bit_of m.high) (let z : 1 + j ≡ suc j = omega arith in z)

    -- both words are below 2 ^ 64
    cut-words : InWords r
    cut-words =
        let l = cut-lt m.low k fits.0 h in
        (rw low-is (omega arith), rw high_is (lt_of_le_of_lt (shr_le m.high 1) fits.1))

    -- a row below 64 is taken out
    pub cut-made-low : Cut k m r
    cut-made-low =
        let w = cut-words in
        record {
          words = w;
          member = λ i.
              ⊎_elim
              (λ (b : i < 63).
              member-low r i (omega arith) ∙ cut_word i b
              ∙ ⊎_elim
              (λ (t : i < k). cut_below m.low k i t ∙ sym (member-low m i (omega arith)) ∙ at-skip i i (skip_below k i t))
              (λ (t : k ≤ i). cut-from m.low k i t ∙ sym (member-low m (suc i) (omega arith)) ∙ at-skip i (suc i) (skip-from k i t))
              (below_or_not i k))
              (λ (b : 63 ≤ i).
              let s = at-skip i (suc i) (skip-from k i (omega arith)) in
              ⊎_elim
              (λ (t : i < 64).
              let q : i ≡ 63 = omega arith in
              member-low r i t ∙ ap (bit_of r.low) q ∙ cut-top
              ∙ ap (bit_of m.high) (let z : 0 ≡ suc i - 64 = omega arith in z) ∙ sym (member-from m fits.1 (suc i) (omega arith)) ∙ s)
              (λ (t : 64 ≤ i).
              member-from r w.1 i t ∙ half-bit (i - 64)
              ∙ ap (bit_of m.high) (let z : suc (i - 64) ≡ suc i - 64 = omega arith in z) ∙ sym (member-from m fits.1 (suc i) (omega arith)) ∙ s)
              (below_or_not i 64))
              (below_or_not i 63);
        }

  -- a row from 64 to 127 is taken out
  pub cut-made-high : 64 ≤ k → k < 128 → r.low ≡ m.low → r.high ≡ cut_bit m.high (k - 64) → r.high < 2 ^ 63 → Cut k m r
  cut-made-high h h' low-is high_is small_r =
      record {
        words = (rw low-is fits.0, omega arith);
        member = λ i.
            ⊎_elim
            (λ (b : i < 64).
            member-low r i b ∙ ap (λ (w : ℕ). bit_of w i) low-is ∙ sym (member-low m i b) ∙ at-skip i i (skip_below k i (omega arith)))
            (λ (b : 64 ≤ i).
            member-from r (omega arith) i b ∙ ap (λ (w : ℕ). bit_of w (i - 64)) high_is
            ∙ ⊎_elim
            (λ (t : i < k). cut_below m.high (k - 64) (i - 64) (omega arith) ∙ sym (member-from m fits.1 i b) ∙ at-skip i i (skip_below k i t))
            (λ (t : k ≤ i).
            cut-from m.high (k - 64) (i - 64) (omega arith)
            ∙ ap (bit_of m.high) (let z : suc (i - 64) ≡ suc i - 64 = omega arith in z) ∙ sym (member-from m fits.1 (suc i) (omega arith)) ∙ at-skip i (suc i) (skip-from k i t))
            (below_or_not i k))
            (below_or_not i 64);
      }

-- a row of 128 or more takes nothing out
pub cut-none : (k : ℕ) (m : Members) → InWords m → 128 ≤ k → Cut k m m
cut-none k m f h =
    record {
      words = f;
      member = λ i.
          ⊎_elim
          (λ (b : i < k). ap (has_member m) (sym (skip_below k i b)))
          (λ (b : k ≤ i). member-past m i (omega arith) ∙ sym (member-past m (suc i) (omega arith)) ∙ ap (has_member m) (sym (skip-from k i b)))
          (below_or_not i k);
    }

-- ---- the test by shifts

module _ (n : ℕ) (m : Members) (fits : InWords m) where
  -- from 64 on, the high word alone is tested
  pub below-high : 64 ≤ n → n < 128 → eqb (m.high / 2 ^ (n - 64)) 0 ≡ every (λ j. ltb j n) (member_rows m)
  below-high h b =
      ⊎_elim
      (λ (e : m.high / 2 ^ (n - 64) ≡ 0).
      eq-eqb _ _ e
      ∙ sym (below_holds n m (λ j c. member-from m fits.1 j (omega arith) ∙ none_from m.high (n - 64) e (j - 64) (omega arith))))
      (λ (e : m.high / 2 ^ (n - 64) ≡ 0 → ⊥).
      let r = some-bit-from m.high (n - 64) fits.1 (omega arith) e in
      let q : 64 + r.0 - 64 ≡ r.0 = omega arith in
      ne_eqb _ _ e
      ∙ sym (below_fails n m (64 + r.0) (omega arith) (member-from m fits.1 (64 + r.0) (omega arith) ∙ ap (bit_of m.high) q ∙ r.3)))
      (same_or_not (m.high / 2 ^ (n - 64)) 0)

  -- below 64, with no bit in the high word, the low word is tested
  pub below-low : n < 64 → m.high ≡ 0 → eqb (m.low / 2 ^ n) 0 ≡ every (λ j. ltb j n) (member_rows m)
  below-low h z =
      ⊎_elim
      (λ (e : m.low / 2 ^ n ≡ 0).
      eq-eqb _ _ e
      ∙ sym (below_holds n m
      (λ j c.
      ⊎_elim
      (λ (t : j < 64). member-low m j t ∙ none_from m.low n e j c)
      (λ (t : 64 ≤ j). member-from m fits.1 j t ∙ ap (λ (w : ℕ). bit_of w (j - 64)) z ∙ bit-zero (j - 64))
      (below_or_not j 64))))
      (λ (e : m.low / 2 ^ n ≡ 0 → ⊥).
      let r = some-bit-from m.low n fits.0 (omega arith) e in
      ne_eqb _ _ e ∙ sym (below_fails n m r.0 r.1 (member-low m r.0 r.2 ∙ r.3)))
      (same_or_not (m.low / 2 ^ n) 0)

  -- below 64, a bit in the high word fails the test
  pub below_left : n < 64 → (m.high ≡ 0 → ⊥) → false ≡ every (λ j. ltb j n) (member_rows m)
  below_left h d =
      let r = some-bit 64 m.high fits.1 d in
      let q : 64 + r.0 - 64 ≡ r.0 = omega arith in
      sym (below_fails n m (64 + r.0) (omega arith) (member-from m fits.1 (64 + r.0) (omega arith) ∙ ap (bit_of m.high) q ∙ r.2))
