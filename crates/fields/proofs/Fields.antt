-- Laws of numbers as bytes, of fields, and of writing into a list; each holds for every width.
use Prim.Native.Nat.{ℕ, suc, zero, ◌+◌, ◌-◌, ◌*◌, ◌/◌, ◌%◌, ◌^◌, ◌<◌, ◌≤◌}
use mathlib.Core.Path.{◌≡◌, refl, sym, ap, ◌∙◌}
use mathlib.Core.Bool.{Bool, true, false, ◌&&◌}
use mathlib.Core.List.{List, [], ◌∷◌, ◌++◌, append_assoc}
use native.Mathlib.Omega.{arith}
use native.Mathlib.Numerals.{add-one}
use native.Mathlib.Nat.{pow-suc, pow-zero, add-zero, zero-add, div-lt_iff_lt-mul, pow-le-pow_right}
use borrow.Author.Tests.{le-leb, lt-leb, leb-true, leb-false, eq-eqb, ne_eqb, eqb-true}
use lib.Dec.{eqb, leb}
use lib.ListN.{length, get_or, take, drop, set, length-append, length-take, length-drop, length-set, take-append-drop}
use lib.Seq.{drop-cons, drop-set-lt, take-suc-set, take_at, drop-drop, length-take-le, get_or-drop, append_snoc, drop-append-add, drop-append-le, take-append-le, take-take, take_all}
use Rattle.std.specs.Int.{w16, w32, w64, from_le_bytes, to_le_bytes}
use Rattle.std.specs.Prelude.{Option, Some, None, MatchOption}
use lib.ListN.{drop_of_length-le}
use borrow.Rule.Slice.PartMut.{put_mid, Post-is}
use Rattle.std.specs.List.{list_all}
use Rattle.kinds.proofs.Refusing.{by-test, same_test, true-false}
use Rattle.kinds.specs.declared.Guid.{Guid}
use Rattle.fields.specs.Fields.{bytes_number, encode, field, written, zeros, all_zero, guid_at, guid_bytes, Bytes, GuidFits}

-- ---- numbers

pub length-encode : (w n : ℕ) → length (encode w n) ≡ w
unfolding encode
length-encode zero n = refl
length-encode (suc w) n = ap suc (length-encode w (n / 256))

-- a number of w bytes, encoded, is read back
pub number-encode : (w n : ℕ) → n < 256 ^ w → bytes_number (encode w n) ≡ n
unfolding encode bytes_number
number-encode zero n h = omega (arith, pow-zero 256)
number-encode (suc w) n h =
    let q : n < 256 ^ w * 256 = rw (pow-suc 256 w) at h in
    let r = number-encode w (n / 256) ((div-lt_iff_lt-mul (omega arith)).1 q) in
    rw r (omega arith)

tail-bytes : (b : ℕ) (s : List ℕ) → Bytes (b ∷ s) → Bytes s
tail-bytes b s h i = h (suc i)

-- bytes are the encoding of their number
encode-number : (s : List ℕ) → Bytes s → encode (length s) (bytes_number s) ≡ s
unfolding encode bytes_number
encode-number [] h = refl
encode-number (b ∷ s) h =
    let l = h 0 in
    let low : (b + 256 * bytes_number s) % 256 ≡ b = omega arith in
    let high : (b + 256 * bytes_number s) / 256 ≡ bytes_number s = omega arith in
    rw (low, high, encode-number s (tail-bytes b s h))

pub power-positive : (w : ℕ) → 0 < 256 ^ w
power-positive w =
    let q : 0 ≤ w = omega arith in
    let p : 256 ^ 0 ≤ 256 ^ w = pow-le-pow_right (omega arith) q in omega (arith, pow-zero 256)

-- ---- reading

pub field_in : (s : List ℕ) (at w : ℕ) → at + w ≤ length s → field s at w ≡ bytes_number (take w (drop at s))
unfolding field
field_in s at w h = rw (le-leb _ _ h)

pub field_out : (s : List ℕ) (at w : ℕ) → length s < at + w → field s at w ≡ 0
unfolding field
field_out s at w h = rw (lt-leb _ _ h)

-- a field within l does not see the bytes after l
pub field-front : (l rest : List ℕ) (at w : ℕ) → at + w ≤ length l → field (l ++ rest) at w ≡ field l at w
field-front l rest at w h =
    let all : at + w ≤ length (l ++ rest) = omega (arith, length-append l rest) in
    let here : at ≤ length l = omega arith in
    let room : w ≤ length (drop at l) = rw length-drop (omega arith) in
    rw (field_in (l ++ rest) at w all, field_in l at w h, drop-append-le at l rest here, take-append-le w (drop at l) rest room)

-- ---- the library's bytes of a number, 2, 4 or 8

number-next : (l : List ℕ) (k : ℕ) → bytes_number (drop k l) ≡ get_or l k 0 + 256 * bytes_number (drop (suc k) l)
unfolding bytes_number
number-next [] zero = refl
number-next [] (suc k) = refl
number-next (b ∷ l) zero = refl
number-next (b ∷ l) (suc k) = number-next l k

number_end : (l : List ℕ) (k : ℕ) → length l ≡ k → bytes_number (drop k l) ≡ 0
unfolding bytes_number
number_end l k h = rw (drop_of_length-le l {i = k} (omega arith)) refl

pub number_2 : (l : List ℕ) → length l ≡ 2 → from_le_bytes w16 l ≡ bytes_number l
number_2 l h = omega (arith, number-next l 0, number-next l 1, number_end l 2 h)

pub number_4 : (l : List ℕ) → length l ≡ 4 → from_le_bytes w32 l ≡ bytes_number l
number_4 l h = omega (arith, number-next l 0, number-next l 1, number-next l 2, number-next l 3, number_end l 4 h)

pub number_8 : (l : List ℕ) → length l ≡ 8 → from_le_bytes w64 l ≡ bytes_number l
number_8 l h =
    omega (arith, number-next l 0, number-next l 1, number-next l 2, number-next l 3, number-next l 4, number-next l 5, number-next l 6, number-next l 7, number_end l 8 h)

pub le-bytes_2 : (n : ℕ) → to_le_bytes w16 n ≡ encode 2 n
unfolding encode
le-bytes_2 n = refl

pub le-bytes_4 : (n : ℕ) → to_le_bytes w32 n ≡ encode 4 n
unfolding encode
le-bytes_4 n =
    let e2 : n / 65536 ≡ n / 256 / 256 = omega arith in
    let e3 : n / 16777216 ≡ n / 256 / 256 / 256 = omega arith in
    rw (e2, e3) refl

pub le-bytes_8 : (n : ℕ) → to_le_bytes w64 n ≡ encode 8 n
unfolding encode
le-bytes_8 n =
    let e2 : n / 65536 ≡ n / 256 / 256 = omega arith in
    let e3 : n / 16777216 ≡ n / 256 / 256 / 256 = omega arith in
    let e4 : n / 4294967296 ≡ n / 256 / 256 / 256 / 256 = omega arith in
    let e5 : n / 1099511627776 ≡ n / 256 / 256 / 256 / 256 / 256 = omega arith in
    let e6 : n / 281474976710656 ≡ n / 256 / 256 / 256 / 256 / 256 / 256 = omega arith in
    let e7 : n / 72057594037927936 ≡ n / 256 / 256 / 256 / 256 / 256 / 256 / 256 = omega arith in
    rw (e2, e3, e4, e5, e6, e7) refl

-- two bytes that are there
pub word-field : (s : List ℕ) (at : ℕ) → at + 2 ≤ length s → get_or s at 0 + get_or s (at + 1) 0 * 256 ≡ field s at 2
unfolding bytes_number
word-field s at h =
    let second : at + 1 ≡ suc at = omega arith in
    let p : at < length s = omega arith in
    let q : suc at < length s = omega arith in
    rw (field_in s at 2 h, second, drop-cons s at 0 p, drop-cons s (suc at) 0 q) (omega arith)

-- the bytes of a field where they are all there, decoded, and else 0
pub read-field : (o : Option (List ℕ)) (decode : List ℕ → ℕ) (s : List ℕ) (at w r : ℕ) → ((l : List ℕ) → length l ≡ w → decode l ≡ bytes_number l)
    → MatchOption o (length s < at + w) (λ l. (at + w ≤ length s) × (l ≡ take w (drop at s)))
    → MatchOption o (r ≡ 0) (λ l. r ≡ decode l) → r ≡ field s at w
read-field None decode s at w r d out e = e ∙ sym (field_out s at w out)
read-field (Some l) decode s at w r d (room, is) e =
    let size : length l ≡ w = rw is (length-take-le w (drop at s) (rw length-drop (omega arith))) in
    e ∙ d l size ∙ (rw is (sym (field_in s at w room)))

-- ---- zeros

pub zeros-zero : (n : ℕ) → all_zero (zeros n) ≡ true
unfolding all_zero
zeros-zero zero = refl
zeros-zero (suc n) = zeros-zero n

pub encode-zeros : (n : ℕ) → encode n 0 ≡ zeros n
unfolding encode
encode-zeros zero = refl
encode-zeros (suc n) = ap (λ (l : List ℕ). 0 ∷ l) (encode-zeros n)

-- bytes are all zero exactly where they make the number 0
pub zero_number : (l : List ℕ) → eqb (bytes_number l) 0 ≡ all_zero l
unfolding bytes_number all_zero
zero_number [] = refl
zero_number (zero ∷ l) =
    same_test (eqb (bytes_number (zero ∷ l)) 0) (eqb (bytes_number l) 0)
    (λ t. let z = eqb-true (0 + 256 * bytes_number l) 0 t in eq-eqb (bytes_number l) 0 (omega arith))
    (λ t. let z = eqb-true (bytes_number l) 0 t in eq-eqb (0 + 256 * bytes_number l) 0 (omega arith))
    ∙ zero_number l
zero_number (suc b ∷ l) = rw (ne_eqb (suc b + 256 * bytes_number l) 0 (λ z. omega arith), ne_eqb (suc b) 0 (λ z. omega arith))

pub zero-zeros : (l : List ℕ) → all_zero l ≡ true → l ≡ zeros (length l)
unfolding all_zero
zero-zeros [] e = refl
zero-zeros (zero ∷ l) e = ap (λ (x : List ℕ). 0 ∷ x) (zero-zeros l e)
zero-zeros (suc b ∷ l) e = absurd (true-false (sym (rw (ne_eqb (suc b) 0 (λ z. omega arith)) at e)))

pub list_all-zero : (l : List ℕ) → list_all (λ b. eqb b 0) l ≡ all_zero l
unfolding all_zero
list_all-zero [] = refl
list_all-zero (b ∷ l) = ap (λ t. eqb b 0 && t) (list_all-zero l)

-- as `is_zero` asks it of bytes that are there
pub zero_field : (s : List ℕ) (at w : ℕ) → at + w ≤ length s → eqb (field s at w) 0 ≡ all_zero (take w (drop at s))
zero_field s at w l = rw (field_in s at w l) (zero_number (take w (drop at s)))

-- the test of the part `&s[at..at + w]`
pub zero_part : (s : List ℕ) (at w : ℕ) → at + w ≤ length s → list_all (λ b. eqb b 0) (take (at + w - at) (drop at s)) ≡ eqb (field s at w) 0
zero_part s at w l =
    let n : at + w - at ≡ w = omega arith in
    rw n (list_all-zero (take w (drop at s)) ∙ sym (zero_field s at w l))

pub drop-bytes : (s : List ℕ) (at : ℕ) → Bytes s → Bytes (drop at s)
drop-bytes s at h i = rw (get_or-drop at s i 0) (h (at + i))

pub take-bytes : (w : ℕ) (s : List ℕ) → Bytes s → Bytes (take w s)
take-bytes zero s h i = omega arith
take-bytes (suc w) [] h i = omega arith
take-bytes (suc w) (b ∷ s) h zero = h 0
take-bytes (suc w) (b ∷ s) h (suc i) = take-bytes w s (tail-bytes b s h) i

-- a number that bytes make
pub number_bound : (l : List ℕ) → Bytes l → bytes_number l < 256 ^ length l
unfolding bytes_number
number_bound [] h = omega arith
number_bound (b ∷ l) h =
    let n = number_bound l (λ i. h (suc i)) in
    let a = h 0 in
    rw (pow-suc 256 (length l)) (omega arith)

-- a field of bytes fits its width
pub field_bound : (s : List ℕ) (at w : ℕ) → Bytes s → field s at w < 256 ^ w
unfolding field
field_bound s at w h =
    by-test (λ (n : ℕ). n < 256 ^ w) (leb (at + w) (length s)) _ _
    (λ e.
    let l = leb-true (at + w) (length s) e in
    let n : length (take w (drop at s)) ≡ w = length-take-le w (drop at s) (rw length-drop (omega arith)) in
    rw n at (number_bound (take w (drop at s)) (take-bytes w (drop at s) (drop-bytes s at h))))
    (λ e. power-positive w)

-- a field of the bytes from k is a field further on
pub field-drop : (s : List ℕ) (k at w : ℕ) → 0 < w → field (drop k s) at w ≡ field s (k + at) w
field-drop s k at w p =
    let n = length-drop k s in
    by-test (λ (_ : Bool). field (drop k s) at w ≡ field s (k + at) w) (leb (k + at + w) (length s)) true false
    (λ e.
    let h = leb-true (k + at + w) (length s) e in
    let i : at + w ≤ length (drop k s) = omega arith in
    rw (field_in (drop k s) at w i, field_in s (k + at) w h, drop-drop at k s))
    (λ e.
    let h = leb-false (k + at + w) (length s) e in
    let i : length (drop k s) < at + w = omega arith in
    rw (field_out (drop k s) at w i, field_out s (k + at) w h))

-- a field, and the bytes after it
pub field-then : (s : List ℕ) (at w : ℕ) (rest : List ℕ) → Bytes s → at + w ≤ length s → drop (at + w) s ≡ rest → drop at s ≡ encode w (field s at w) ++ rest
field-then s at w rest h l e =
    let p = take w (drop at s) in
    let n : length p ≡ w = length-take-le w (drop at s) (rw length-drop (omega arith)) in
    let same : encode w (bytes_number p) ≡ p = rw n at (encode-number p (take-bytes w (drop at s) (drop-bytes s at h))) in
    rw (field_in s at w l, same, ← e, ← drop-drop) (sym (take-append-drop w (drop at s)))

-- the same where the bytes after it are named by their own place
pub field_next : (s : List ℕ) (at w next : ℕ) (rest : List ℕ) → Bytes s → at + w ≡ next → next ≤ length s → drop next s ≡ rest → drop at s ≡ encode w (field s at w) ++ rest
field_next s at w next rest h e l d = field-then s at w rest h (omega arith) (rw e d)

-- ---- what bytes that are a layout hold

drop_of_take : (k w n : ℕ) (l : List ℕ) → k + w ≤ n → take w (drop k (take n l)) ≡ take w (drop k l)
drop_of_take zero w n l h = take-take w n l (omega arith)
drop_of_take (suc k) w zero l h = absurd (omega arith)
drop_of_take (suc k) w (suc n) [] h = refl
drop_of_take (suc k) w (suc n) (x ∷ l) h = drop_of_take k w n l (omega arith)

-- a part of bytes that are x is that part of x
pub part_of : (s x : List ℕ) (at n k w : ℕ) → take n (drop at s) ≡ x → k + w ≤ n → take w (drop (at + k) s) ≡ take w (drop k x)
part_of s x at n k w e h = rw (← e, drop_of_take k w n (drop at s) h, drop-drop)

-- bytes that are the encoding of v hold v
pub field-as : (s : List ℕ) (at w v : ℕ) → take w (drop at s) ≡ encode w v → at + w ≤ length s → v < 256 ^ w → field s at w ≡ v
field-as s at w v e h b = field_in s at w h ∙ (rw e (number-encode w v b))

pub guid-as : (s : List ℕ) (at : ℕ) (g : Guid) → take 16 (drop at s) ≡ guid_bytes g → at + 16 ≤ length s → GuidFits g → guid_at s at ≡ g
unfolding encode
guid-as s at g e h b =
    let low : take 8 (drop (at + 0) s) ≡ encode 8 g.low = part_of s (guid_bytes g) at 16 0 8 e (omega arith) in
    let high : take 8 (drop (at + 8) s) ≡ encode 8 g.high = part_of s (guid_bytes g) at 16 8 8 e (omega arith) in
    rw (field-as s at 8 g.low (rw (add-zero at) at low) (omega arith) b.low, field-as s (at + 8) 8 g.high high (omega arith) b.high)

pub guid-fits : (s : List ℕ) (at : ℕ) → Bytes s → GuidFits (guid_at s at)
guid-fits s at h = record { low = field_bound s at 8 h; high = field_bound s (at + 8) 8 h }

-- what bytes that are a layout hold at one of its places
module _ (s x : List ℕ) (at n : ℕ) (e : take n (drop at s) ≡ x) (l : at + n ≤ length s) where
  pub field-part : (k w v : ℕ) → k + w ≤ n → take w (drop k x) ≡ encode w v → v < 256 ^ w → field s (at + k) w ≡ v
  field-part k w v h p b = field-as s (at + k) w v (part_of s x at n k w e h ∙ p) (omega arith) b

  pub guid-part : (k : ℕ) (g : Guid) → k + 16 ≤ n → take 16 (drop k x) ≡ guid_bytes g → GuidFits g → guid_at s (at + k) ≡ g
  guid-part k g h p b = guid-as s (at + k) g (part_of s x at n k 16 e h ∙ p) (omega arith) b

-- an identifier, and the bytes after it
pub guid-then : (s : List ℕ) (at : ℕ) (rest : List ℕ) → Bytes s → at + 16 ≤ length s → drop (at + 16) s ≡ rest → drop at s ≡ guid_bytes (guid_at s at) ++ rest
guid-then s at rest h l e =
    let past : at + 8 + 8 ≡ at + 16 = omega arith in
    field-then s at 8 _ h (omega arith) (field-then s (at + 8) 8 rest h (omega arith) (rw past e))
    ∙ sym (append_assoc (encode 8 (field s at 8)) (encode 8 (field s (at + 8) 8)) rest)

-- ---- writing

pub written_in_lem : (s : List ℕ) (at : ℕ) (b : List ℕ) → at + length b ≤ length s → written s at b ≡ take at s ++ (b ++ drop (at + length b) s)
unfolding written
written_in_lem s at b h = rw (le-leb _ _ h)

pub written_out : (s : List ℕ) (at : ℕ) (b : List ℕ) → length s < at + length b → written s at b ≡ s
unfolding written
written_out s at b h = rw (lt-leb _ _ h)

-- the part of a slice from at on, which got the bytes b
pub written-part : (s b ys : List ℕ) (at n : ℕ) → length b ≡ n → at + n ≤ length s → ys ≡ b → put_mid at (at + n - at) s ys ≡ written s at b
written-part s b ys at n e h same =
    rw (same, Post-is at (at + n) s (omega arith), written_in_lem s at b (rw e h), e) refl

-- bytes at the front of a buffer that has room for them
pub written-front : (b x : List ℕ) → length x ≤ length b → written b 0 x ≡ x ++ drop (length x) b
written-front b x h = written_in_lem b 0 x (rw zero-add h) ∙ (rw zero-add)

pub written_none : (s : List ℕ) (at : ℕ) → written s at [] ≡ s
unfolding written
written_none s at = by-test (λ (x : List ℕ). x ≡ s) (leb (at + 0) (length s)) _ _ (λ e. rw (add-zero at) (take-append-drop at s)) (λ e. refl)

-- the first byte is stored, and the others are written after it
module _ (s : List ℕ) (at i : ℕ) where
  pub written-more : (b : ℕ) (bs : List ℕ) → at + i + suc (length bs) ≤ length s → written (set s (at + i) b) (at + (i + 1)) bs ≡ written s (at + i) (b ∷ bs)
  written-more b bs h =
      let o : at + (i + 1) ≡ suc (at + i) = omega arith in
      let e : suc (at + i) + length bs ≡ at + i + suc (length bs) = omega arith in
      let room : suc (at + i) + length bs ≤ length (set s (at + i) b) = rw (length-set s (at + i) b) (omega arith) in
      let d : drop (at + i + suc (length bs)) (set s (at + i) b) ≡ drop (at + i + suc (length bs)) s =
      drop-set-lt (at + i + suc (length bs)) s (at + i) b (omega arith) in
      rw (o, written_in_lem (set s (at + i) b) (suc (at + i)) bs room, written_in_lem s (at + i) (b ∷ bs) h, e, d, take-suc-set s (at + i) b (omega arith))
      (append_snoc (take (at + i) s) b (bs ++ drop (at + i + suc (length bs)) s))

  pub written-copy : (src : List ℕ) → i < length src → at + length src ≤ length s → written (set s (at + i) (get_or src i 0)) (at + (i + 1)) (drop (i + 1) src) ≡ written s (at + i) (drop i src)
  written-copy src l h = written-more (get_or src i 0) (drop (i + 1) src) (rw length-drop (omega arith)) ∙ rw (drop-cons src i 0 l, add-one i)

pub length-written : (s : List ℕ) (at : ℕ) (b : List ℕ) → length (written s at b) ≡ length s
unfolding written
length-written s at b =
    by-test (λ (x : List ℕ). length x ≡ length s) (leb (at + length b) (length s)) _ _
    (λ e. let h = leb-true (at + length b) (length s) e in simp (length-append, length-take, length-drop) (omega arith))
    (λ e. refl)

drop_past : (q d : List ℕ) (m k : ℕ) → length q ≡ m → drop (m + k) (q ++ d) ≡ drop k d
drop_past q d m k e = rw (← e) (drop-append-add q d k)

-- two writes, one right after the other
pub written-two : (s a b : List ℕ) (at n : ℕ) → length a ≡ n → at + n + length b ≤ length s → written (written s at a) (at + n) b ≡ written s at (a ++ b)
written-two s a b at n e l =
    let p = take at s in
    let d = drop (at + length a) s in
    let q : length (p ++ a) ≡ at + n = length-append p a ∙ (rw (length-take-le at s (omega arith), e)) in
    let j : at + length (a ++ b) ≡ at + length a + length b = omega (arith, length-append a b) in
    let first : written s at a ≡ p ++ (a ++ d) = written_in_lem s at a (omega arith) in
    let room : at + n + length b ≤ length (written s at a) = rw (length-written s at a) l in
    let whole : at + length (a ++ b) ≤ length s = omega arith in
    written_in_lem (written s at a) (at + n) b room
    ∙ (rw (written_in_lem s at (a ++ b) whole, first, ← append_assoc p a d, take_at (p ++ a) d (at + n) q, drop_past (p ++ a) d (at + n) (length b) q, drop-drop, j)
    (simp append_assoc))

-- ---- a run of writes

-- l is the buffer b with the n bytes p written from at
pub record Run (b : List ℕ) (at : ℕ) (l p : List ℕ) (n : ℕ) : Type 0 where
  pub holds : l ≡ written b at p
  pub size : length p ≡ n

-- the first write
pub first-bytes : {b l : List ℕ} {at : ℕ} (x : List ℕ) (n : ℕ) → length x ≡ n → l ≡ written b at x → Run b at l x n
first-bytes x n h e = record { holds = e; size = h }

pub first_field : {b l : List ℕ} {at : ℕ} (w v : ℕ) → l ≡ written b at (encode w v) → Run b at l (encode w v) w
first_field w v e = first-bytes (encode w v) w (length-encode w v) e

-- one write more, right after the others
pub then-bytes : {b l l' p : List ℕ} {at n : ℕ} (x : List ℕ) (w : ℕ) → Run b at l p n → length x ≡ w → at + n + w ≤ length b → l' ≡ written l (at + n) x → Run b at l' (p ++ x) (n + w)
then-bytes {b} {l} {l'} {p} {at} {n} x w r h room e =
    record {
      holds = e ∙ (rw r.holds (written-two b p x at n r.size (omega arith)));
      size = length-append p x ∙ (rw (r.size, h));
    }

pub then-field : {b l l' p : List ℕ} {at n : ℕ} (w v : ℕ) → Run b at l p n → at + n + w ≤ length b → l' ≡ written l (at + n) (encode w v) → Run b at l' (p ++ encode w v) (n + w)
then-field w v r room e = then-bytes (encode w v) w r (length-encode w v) room e

pub length-guid : (g : Guid) → length (guid_bytes g) ≡ 16
length-guid g = length-append (encode 8 g.low) (encode 8 g.high) ∙ (rw (length-encode 8 g.low, length-encode 8 g.high))

pub first-guid : {b l : List ℕ} {at : ℕ} (g : Guid) → l ≡ written b at (guid_bytes g) → Run b at l (guid_bytes g) 16
first-guid g e = first-bytes (guid_bytes g) 16 (length-guid g) e

pub then-guid : {b l l' p : List ℕ} {at n : ℕ} (g : Guid) → Run b at l p n → at + n + 16 ≤ length b → l' ≡ written l (at + n) (guid_bytes g) → Run b at l' (p ++ guid_bytes g) (n + 16)
then-guid g r room e = then-bytes (guid_bytes g) 16 r (length-guid g) room e

-- ---- parts of a slice

-- the part `&s[k..]`
pub take_rest : (s : List ℕ) (k : ℕ) → take (length s - k) (drop k s) ≡ drop k s
take_rest s k = take_all (length s - k) (drop k s) (rw length-drop (omega arith))
