-- Words that leave a walk in a text; a walk over bytes as one over the words that they make.
use Prim.Native.Nat.{ℕ, suc, zero, ◌+◌, ◌-◌, ◌*◌, ◌/◌, ◌%◌, ◌<◌, ◌≤◌, min}
use mathlib.Core.Path.{◌≡◌, refl, sym, ap, ◌∙◌}
use mathlib.Core.Bool.{and-false}
use mathlib.Core.List.{List, [], ◌∷◌}
use native.Mathlib.Omega.{arith}
use native.Mathlib.Numerals.{add-one}
use borrow.Author.Tests.{lt-ltb, le-ltb, le-leb, leb-true, leb-false, eq-eqb, ne_eqb, eqb-true}
use lib.Dec.{eqb, ltb, leb}
use lib.ListN.{length, get_or, drop, length-drop}
use lib.Seq.{drop-cons}
use Rattle.kinds.proofs.Refusing.{by-test}
use Rattle.fields.specs.Fields.{bytes_number, field}
use Rattle.fields.proofs.Fields.{field_in}
use Rattle.bindings.specs.Bindings.{words, NoZero}
use Rattle.bindings.proofs.Parts.{words_more, words-none}
use Rattle.bindings.proofs.ListBytes.{by_bool}
use Rattle.list_walk.specs.Walk.{word_step, list_step, walk_list, TextPassed, limit, next_mode, next_seen, mode_after}

-- ---- in a text

text-step : (v k w : ℕ) → (k ≡ v → ⊥) → (w ≡ 0 → ⊥) → list_step v k 2 w ≡ 2
unfolding list_step word_step
text-step v k w h z = rw (ne_eqb k v h, ne_eqb w 0 z)

text-words : (s : List ℕ) (v c k at w k' at' w' : ℕ) → ((j : ℕ) → j < c → (field s (at + 2 * j) 2 ≡ 0 → ⊥) × (k + j ≡ v → ⊥)) → k' ≡ k + c → at' ≡ at + 2 * c → w ≡ w' + c
    → walk_list v k' 2 (words s at' w') ≡ walk_list v k 2 (words s at w)
unfolding walk_list
text-words s v zero k at w k' at' w' t a b d =
    let x : k' ≡ k = omega arith in
    let y : at' ≡ at = omega arith in
    let z : w' ≡ w = omega arith in
    rw (x, y, z)
text-words s v (suc c) k at w k' at' w' t a b d =
    let x : at + 2 * 0 ≡ at = omega arith in
    let f : (field s at 2 ≡ 0 → ⊥) × (k + 0 ≡ v → ⊥) = rw x at (t 0 (omega arith)) in
    let e : list_step v k 2 (field s at 2) ≡ 2 = text-step v k (field s at 2) (λ q. f.1 (omega arith)) f.0 in
    let u : (j : ℕ) → j < c → (field s (at + 2 + 2 * j) 2 ≡ 0 → ⊥) × (suc k + j ≡ v → ⊥) =
    (λ j l.
    let y : at + 2 * suc j ≡ at + 2 + 2 * j = omega arith in
    let g = rw y at (t (suc j) (omega arith)) in
    (g.0, λ q. g.1 (omega arith))) in
    rw (words_more s at w (w - 1) (omega arith))
    (text-words s v c (suc k) (at + 2) (w - 1) k' at' w' u (omega arith) (omega arith) (omega arith)
    ∙ sym (ap (λ (n : ℕ). walk_list v (suc k) n (words s (at + 2) (w - 1))) e))

pub passed-text : (s : List ℕ) (v k m at w r : ℕ) → m ≡ 2 → r < w → NoZero s at r → ((j : ℕ) → j < r → k + j ≡ v → ⊥) → TextPassed v k m s at w r
passed-text s v k m at w r e h z p = (h, rw e (text-words s v r k at w (k + r) (at + 2 * r) (w - r) (λ j l. (z j l, p j l)) refl refl (omega arith)))

-- words of a text, and one more
pub turn-walked : (s : List ℕ) (v k m at w i r p m' whole : ℕ) → i < w → TextPassed v (k + i) m s (at + 2 * i) (w - i) r → p ≡ i + r
    → m' ≡ list_step v (k + p) m (field s (at + 2 * p) 2) → walk_list v (k + i) m (words s (at + 2 * i) (w - i)) ≡ whole
    → walk_list v (k + (p + 1)) m' (words s (at + 2 * (p + 1)) (w - (p + 1))) ≡ whole
unfolding walk_list
turn-walked s v k m at w i r p m' whole h t e q g =
    let a : k + (p + 1) ≡ suc (k + i + r) = omega arith in
    let b : at + 2 * (p + 1) ≡ at + 2 * i + 2 * r + 2 = omega arith in
    let d : w - (p + 1) ≡ w - i - r - 1 = omega arith in
    let x : k + p ≡ k + i + r = omega arith in
    let y : at + 2 * p ≡ at + 2 * i + 2 * r = omega arith in
    let l : 0 < w - i - r = omega arith in
    let z = words_more s (at + 2 * i + 2 * r) (w - i - r) (w - i - r - 1) (omega arith) in
    rw (q, a, b, d, x, y) ((rw z at t.1) ∙ g)

pub walk-done : (s : List ℕ) (v k m at w : ℕ) → w ≡ 0 → walk_list v k m (words s at w) ≡ m
unfolding walk_list
walk-done s v k m at w z = rw (words-none s at w z)

-- ---- from bytes to words

-- two bytes make a word
pub pair : (s : List ℕ) (at : ℕ) → at + 2 ≤ length s → field s at 2 ≡ get_or s at 0 + 256 * get_or s (at + 1) 0
unfolding bytes_number
pair s at h =
    let a : at < length s = omega arith in
    let b : suc at < length s = omega arith in
    field_in s at 2 h ∙ (rw (drop-cons s at 0 a, drop-cons s (suc at) 0 b, add-one at) (omega arith))

pub seen-grows : (seen : ℕ) → seen ≤ next_seen seen
seen-grows seen = by-test (λ (n : ℕ). seen ≤ n) (ltb seen limit) (seen + 1) seen (λ _. omega arith) (λ _. omega arith)

pub mode-again : (n v k seen low m b seen' m' : ℕ) (bs : List ℕ) → seen' ≡ next_seen seen → m' ≡ next_mode n v (seen - k) low m b
    → mode_after n v k seen' b m' bs ≡ mode_after n v k seen low m (b ∷ bs)
unfolding mode_after
mode-again n v k seen low m b seen' m' bs p q = rw (p, q)

module _ (n v start : ℕ) where
  -- the first byte of a word changes nothing
  low_byte : (j low m b : ℕ) → j % 2 ≡ 0 → m ≡ next_mode n v j low m b
  unfolding next_mode
  low_byte j low m b e =
      let h : j % 2 ≡ 1 → ⊥ = λ q. omega arith in
      rw (ne_eqb (j % 2) 1 h, and-false)

  -- the second one makes a step
  high_byte : (k j low m b : ℕ) → j ≡ 5 + 2 * k → k < n → list_step v k m (low + 256 * b) ≡ next_mode n v j low m b
  unfolding next_mode
  high_byte k j low m b e h =
      let x : 5 ≤ j = omega arith in
      let y : j % 2 ≡ 1 = omega arith in
      let z : (j - 5) / 2 ≡ k = omega arith in
      rw (le-leb 5 j x, eq-eqb (j % 2) 1 y, z, lt-ltb k n h)

  counted : (seen : ℕ) → seen < limit → seen + 1 ≡ next_seen seen
  counted seen h = rw (lt-ltb seen limit h)

  word-again : (k seen low m a b : ℕ) (bs : List ℕ) → seen ≡ start + 4 + 2 * k → seen + 2 ≤ limit → k < n
      → mode_after n v start seen low m (a ∷ b ∷ bs) ≡ mode_after n v start (seen + 1 + 1) b (list_step v k m (a + 256 * b)) bs
  word-again k seen low m a b bs e h g =
      let x : (seen - start) % 2 ≡ 0 = omega arith in
      let y : seen + 1 - start ≡ 5 + 2 * k = omega arith in
      sym (mode-again n v start seen low m a (seen + 1) m (b ∷ bs) (counted seen (omega arith)) (low_byte (seen - start) low m a x))
      ∙ sym
      (mode-again n v start (seen + 1) a m b (seen + 1 + 1) (list_step v k m (a + 256 * b)) bs (counted (seen + 1) (omega arith)) (high_byte k (seen + 1 - start) a m b y g))

  -- w words, where what is left after them changes nothing
  words-walk : (s : List ℕ) (w at seen low m k : ℕ) → seen ≡ start + 4 + 2 * k → at + 2 * w ≤ length s → seen + 2 * w ≤ limit → w ≤ n - k
      → ((low' m' : ℕ) → mode_after n v start (seen + 2 * w) low' m' (drop (at + 2 * w) s) ≡ m')
      → mode_after n v start seen low m (drop at s) ≡ walk_list v k m (words s at w)
  unfolding walk_list
  words-walk s zero at seen low m k e r l h rest =
      let x : seen + 2 * 0 ≡ seen = omega arith in
      let y : at + 2 * 0 ≡ at = omega arith in
      rw (words-none s at 0 refl) (rw (x, y) at (rest low m))
  words-walk s (suc w) at seen low m k e r l h rest =
      let a : at < length s = omega arith in
      let b : suc at < length s = omega arith in
      let x : seen + 2 * suc w ≡ seen + 1 + 1 + 2 * w = omega arith in
      let y : at + 2 * suc w ≡ suc (suc at) + 2 * w = omega arith in
      let q : suc (suc at) ≡ at + 2 = omega arith in
      let f : field s at 2 ≡ get_or s at 0 + 256 * get_or s (suc at) 0 = rw (← add-one at) (pair s at (omega arith)) in
      let i =
      words-walk s w (suc (suc at)) (seen + 1 + 1) (get_or s (suc at) 0) (list_step v k m (field s at 2)) (suc k) (omega arith) (omega arith) (omega arith) (omega arith)
      (λ low' m'. rw (x, y) at (rest low' m')) in
      rw (drop-cons s at 0 a, drop-cons s (suc at) 0 b, words_more s at (suc w) w refl)
      (word-again k seen low m (get_or s at 0) (get_or s (suc at) 0) (drop (suc (suc at)) s) e (omega arith) (omega arith)
      ∙ (rw (← f, ← q) i))

  -- nothing changes behind the last word, nor by a byte without its second
  late-byte : (j low m b : ℕ) → 4 + 2 * n ≤ j → m ≡ next_mode n v j low m b
  unfolding next_mode
  late-byte j low m b h =
      by_bool (eqb (j % 2) 1)
      (λ e.
      let o : j % 2 ≡ 1 = eqb-true (j % 2) 1 e in
      let x : n ≤ (j - 5) / 2 = omega arith in
      rw (le-ltb ((j - 5) / 2) n x, and-false (eqb (j % 2) 1), and-false (leb 5 j)))
      (λ e. rw (e, and-false (leb 5 j)))

  past : (bs : List ℕ) (seen low m : ℕ) → start + 4 + 2 * n ≤ seen → mode_after n v start seen low m bs ≡ m
  unfolding mode_after
  past [] seen low m h = refl
  past (b ∷ bs) seen low m h =
      sym (mode-again n v start seen low m b (next_seen seen) m bs refl (late-byte (seen - start) low m b (omega arith)))
      ∙ past bs (next_seen seen) b m (let g = seen-grows seen in omega arith)

  one_left : (bs : List ℕ) (seen low m : ℕ) → (seen - start) % 2 ≡ 0 → length bs ≤ 1 → mode_after n v start seen low m bs ≡ m
  unfolding mode_after
  one_left [] seen low m e h = refl
  one_left (b ∷ []) seen low m e h = sym (low_byte (seen - start) low m b e)
  one_left (b ∷ c ∷ bs) seen low m e h = absurd (omega arith)

  even-rest : (s : List ℕ) (at seen low m k w : ℕ) → seen ≡ start + 4 + 2 * k → at ≤ length s → w ≡ min (n - k) ((length s - at) / 2)
      → mode_after n v start (seen + 2 * w) low m (drop (at + 2 * w) s) ≡ m
  even-rest s at seen low m k w e r h =
      by_bool (leb (n - k) ((length s - at) / 2))
      (λ q. let l = leb-true (n - k) ((length s - at) / 2) q in past (drop (at + 2 * w) s) (seen + 2 * w) low m (omega arith))
      (λ q.
      let l = leb-false (n - k) ((length s - at) / 2) q in
      one_left (drop (at + 2 * w) s) (seen + 2 * w) low m (omega arith) (rw (length-drop (at + 2 * w) s) (omega arith)))

  -- from a byte that begins word k
  pub even-walk : (s : List ℕ) (at seen low m k : ℕ) → seen ≡ start + 4 + 2 * k → at ≤ length s → seen + (length s - at) ≤ limit
      → mode_after n v start seen low m (drop at s) ≡ walk_list v k m (words s at (min (n - k) ((length s - at) / 2)))
  even-walk s at seen low m k e r l =
      words-walk s (min (n - k) ((length s - at) / 2)) at seen low m k e (omega arith) (omega arith) (omega arith)
      (λ low' m'. even-rest s at seen low' m' k (min (n - k) ((length s - at) / 2)) e r refl)

  -- from a byte that ends the word before it
  pub odd-walk : (s : List ℕ) (seen low m k m' : ℕ) → seen + 1 ≡ start + 4 + 2 * k → 0 < length s → seen + length s ≤ limit → m' ≡ next_mode n v (seen - start) low m (get_or s 0 0)
      → mode_after n v start seen low m s ≡ walk_list v k m' (words s 1 (min (n - k) ((length s - 1) / 2)))
  odd-walk s seen low m k m' e h l q =
      ap (mode_after n v start seen low m) (drop-cons s 0 0 h)
      ∙ sym (mode-again n v start seen low m (get_or s 0 0) (seen + 1) m' (drop 1 s) (counted seen (omega arith)) q)
      ∙ even-walk s 1 (seen + 1) (get_or s 0 0) m' k e (omega arith) (omega arith)
