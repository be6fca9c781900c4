-- Numbers of several widths one after the other, and lists of numbers of one width.
use Prim.Native.Nat.{ℕ, suc, ◌+◌, ◌*◌, ◌^◌, ◌<◌}
use mathlib.Core.Path.{◌≡◌, refl, sym, ap, ◌∙◌}
use mathlib.Core.List.Memᴰ
use mathlib.Core.List.{List, [], ◌∷◌, ◌++◌}
use native.Mathlib.Omega.{arith}
use lib.ListN.{length, length-append}
use Rattle.fields.specs.Fields.{encode, field}
use Rattle.fields.proofs.Fields.{length-encode}
use Rattle.lists.specs.Lists.{tabulate}
use Rattle.lists.proofs.Lists.{tabulate-ext}
use Rattle.rules.specs.Snapshot.{in_row}
use Rattle.rules.specs.Swapping.{Each}
use Rattle.rules.proofs.OneByOne.{field_back}
use Rattle.rules.proofs.SnapshotReading.{encoded-front}

-- a number and its width in bytes
pub record Wide : Type 0 where
  pub width : ℕ
  pub value : ℕ

abbrev pub wide : ℕ → ℕ → Wide
wide w v = record { width = w; value = v }

unfoldable pub fields : List Wide → List ℕ
fields [] = []
fields (x ∷ xs) = encode x.width x.value ++ fields xs

unfoldable pub widths : List Wide → ℕ
widths [] = 0
widths (x ∷ xs) = x.width + widths xs

pub length_fields : (xs : List Wide) → length (fields xs) ≡ widths xs
unfolding fields widths
length_fields [] = refl
length_fields (x ∷ xs) = length-append (encode x.width x.value) (fields xs) ∙ (λ u. length-encode x.width x.value u + length_fields xs u)

pub field_past : (v n : ℕ) (q : List ℕ) (k w : ℕ) → field (encode n v ++ q) (n + k) w ≡ field q k w
field_past v n q k w = ap (λ (m : ℕ). field (encode n v ++ q) (m + k) w) (sym (length-encode n v)) ∙ field_back (encode n v) q k w

-- one of them
pub field_of : (xs : List Wide) (x : Wide) (ys : List Wide) → x.value < 256 ^ x.width → field (fields (xs ++ (x ∷ ys))) (widths xs) x.width ≡ x.value
unfolding fields widths
field_of [] x ys b = encoded-front x.width x.value (fields ys) b
field_of (y ∷ xs) x ys b = field_past y.value y.width (fields (xs ++ (x ∷ ys))) (widths xs) x.width ∙ field_of xs x ys b

-- numbers of one width
pub numbers-back : (w : ℕ) (ns : List ℕ) → Each (λ n. n < 256 ^ w) ns → tabulate (length ns) (λ k. field (in_row (encode w) ns) (w * k) w) ≡ ns
unfolding in_row tabulate
numbers-back w [] b = refl
numbers-back w (n ∷ ns) b =
    let z : w * 0 ≡ 0 = omega arith in
    let front : field (encode w n ++ in_row (encode w) ns) (w * 0) w ≡ n =
    ap (λ (k : ℕ). field (encode w n ++ in_row (encode w) ns) k w) z ∙ encoded-front w n (in_row (encode w) ns) (b n (Memᴰ.head refl)) in
    let more =
    tabulate-ext (length ns) (λ k. field (encode w n ++ in_row (encode w) ns) (w * suc k) w) (λ k. field (in_row (encode w) ns) (w * k) w)
    (λ k l.
    let s : w * suc k ≡ w + w * k = omega arith in
    ap (λ (m : ℕ). field (encode w n ++ in_row (encode w) ns) m w) s ∙ field_past n w (in_row (encode w) ns) (w * k) w)
    ∙ numbers-back w ns (λ m i. b m (Memᴰ.tail i)) in
    λ u. front u ∷ more u
