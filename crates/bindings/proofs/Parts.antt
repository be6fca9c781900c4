-- Laws of the words of a part and of its grammar.
use Prim.Native.Nat.{ℕ, suc, zero, ◌+◌, ◌-◌, ◌*◌, ◌<◌, ◌≤◌}
use mathlib.Core.Path.{◌≡◌, refl, sym, ap, ◌∙◌}
use mathlib.Core.Bool.{false, cond}
use mathlib.Core.List.{List, [], ◌∷◌, ◌++◌, append_assoc, append-nil}
use mathlib.Core.Logic.{⊎_elim}
use native.Mathlib.Omega.{arith}
use native.Mathlib.Numerals.{add-one}
use native.Mathlib.Nat.{mul-suc}
use borrow.Author.Tests.{ne_eqb, eq-eqb, eqb-true}
use lib.Dec.{eqb, eqb-suc-zero}
use lib.ListN.{length, take, drop, length-append, length-drop, drop_of_length-le}
use lib.Seq.{take_all, length-take-le}
use Rattle.fields.specs.Fields.{field}
use Rattle.kinds.proofs.Refusing.{by-test, same_test}
use Rattle.lists.proofs.Tests.{below_or_not}
use Rattle.bindings.specs.Bindings.{words, through_zero, NoZero, FirstZero, head_words, first_binding, bindings_up_to, bindings_of, joined, same_words, is_part, refusal, place}
use Rattle.bindings.specs.declared.Part.{Part}
use Rattle.bindings.specs.declared.Part.TheVariants.{Strings, Security}

-- ---- words

-- the next word and the others
pub words_more : (s : List ℕ) (at n m : ℕ) → n ≡ suc m → words s at n ≡ field s at 2 ∷ words s (at + 2) m
unfolding words
words_more s at n m h = rw h

pub words-none : (s : List ℕ) (at n : ℕ) → n ≡ 0 → words s at n ≡ []
unfolding words
words-none s at n h = rw h

pub length-words : (s : List ℕ) (at n : ℕ) → length (words s at n) ≡ n
unfolding words
length-words s at zero = refl
length-words s at (suc n) = ap suc (length-words s (at + 2) n)

-- the words after the first m
pub drop-words : (s : List ℕ) (m at n : ℕ) → m ≤ n → drop m (words s at n) ≡ words s (at + 2 * m) (n - m)
unfolding words
drop-words s zero at n h =
    let a : at + 2 * 0 ≡ at = omega arith in
    let b : n - 0 ≡ n = omega arith in
    rw (a, b)
drop-words s (suc m) at zero h = absurd (omega arith)
drop-words s (suc m) at (suc n) h =
    let a : at + 2 * suc m ≡ at + 2 + 2 * m = omega arith in
    let b : suc n - suc m ≡ n - m = omega arith in
    rw (a, b) (drop-words s m (at + 2) n (omega arith))

-- ---- the first binding

-- the words of a text: none where there are none, the zero word, or one more
pub text-none : (s : List ℕ) (at n : ℕ) → n ≡ 0 → length (through_zero (words s at n)) ≡ 0
unfolding through_zero
text-none s at n z = rw (words-none s at n z)

pub text-end : (s : List ℕ) (at n : ℕ) → 0 < n → field s at 2 ≡ 0 → length (through_zero (words s at n)) ≡ 1
unfolding through_zero
text-end s at n h z = rw (words_more s at n (n - 1) (omega arith), z)

pub text-more : (s : List ℕ) (at to n m : ℕ) → to ≡ at + 2 → n ≡ suc m → (field s at 2 ≡ 0 → ⊥) → length (through_zero (words s at n)) ≡ suc (length (through_zero (words s to m)))
unfolding through_zero
text-more s at to n m d e z = rw (words_more s at n m e, ne_eqb _ 0 z, d)

-- words before the first zero word, and others behind them
pub no-zero-more : (s : List ℕ) (at n i k : ℕ) → (i ≤ n) × NoZero s at i → (k ≤ n - i) × NoZero s (at + 2 * i) k → (i + k ≤ n) × NoZero s at (i + k)
no-zero-more s at n i k front rest = (
  omega (arith, front.0, rest.0),
  λ j l.
      ⊎_elim
      (λ (h : j < i). front.1 j h)
      (λ (h : i ≤ j). let q : at + 2 * i + 2 * (j - i) ≡ at + 2 * j = omega arith in rw q at (rest.1 (j - i) (omega arith)))
      (below_or_not j i),
)

-- one block of w words more
pub block-more : (s : List ℕ) (at w k : ℕ) → NoZero s at (w * k) → NoZero s (at + 2 * (w * k)) w → NoZero s at (w * (k + 1))
block-more s at w k front rest =
    let more = no-zero-more s at (w * k + w) (w * k) w (omega arith, front) (omega arith, rest) in
    let next : w * (k + 1) ≡ w * k + w = rw add-one (mul-suc w k) in
    rw next more.1

-- and the text that they leave
pub text-passed : (s : List ℕ) (k at n : ℕ) → k ≤ n → NoZero s at k → k + length (through_zero (words s (at + 2 * k) (n - k))) ≡ length (through_zero (words s at n))
text-passed s zero at n h z =
    let a : at + 2 * 0 ≡ at = omega arith in
    let b : n - 0 ≡ n = omega arith in
    rw (a, b) (omega arith)
text-passed s (suc k) at n h z =
    let a : at + 2 * suc k ≡ at + 2 + 2 * k = omega arith in
    let b : n - suc k ≡ n - 1 - k = omega arith in
    let d : at + 2 * 0 ≡ at = omega arith in
    let first : field s at 2 ≡ 0 → ⊥ = rw d at (z 0 (omega arith)) in
    let more : NoZero s (at + 2) k = λ j l. let e : at + 2 * suc j ≡ at + 2 + 2 * j = omega arith in rw e at (z (suc j) (omega arith)) in
    let rest = text-passed s k (at + 2) (n - 1) (omega arith) more in
    let one = text-more s at (at + 2) n (n - 1) refl (omega arith) first in
    rw (a, b) (omega arith)

-- a text by its first zero word
pub text_at : (s : List ℕ) (at n i : ℕ) → FirstZero s at n i → length (through_zero (words s at n)) ≡ i + 1
text_at s at n i f =
    let passed = text-passed s i at n (omega (arith, f.within)) f.before in
    let end = text-end s (at + 2 * i) (n - i) (omega (arith, f.within)) f.zero in
    omega arith

-- the first zero word of the first words is that of more words
pub first_of_more : (s : List ℕ) (at k n i : ℕ) → k ≤ n → FirstZero s at k i → FirstZero s at n i
first_of_more s at k n i h f = record { within = omega (arith, f.within); zero = f.zero; before = f.before }

-- a text without a zero word
pub text_all : (s : List ℕ) (at n : ℕ) → NoZero s at n → length (through_zero (words s at n)) ≡ n
text_all s at n z =
    let passed = text-passed s n at n (omega arith) z in
    let end = text-none s (at + 2 * n) (n - n) (omega arith) in
    omega arith

-- a text is the front of the words
through-front : (ws : List ℕ) → through_zero ws ++ drop (length (through_zero ws)) ws ≡ ws
unfolding through_zero
through-front [] = refl
through-front (w ∷ ws) =
    ap (λ (l : List ℕ). w ∷ l)
    (by-test (λ (t : List ℕ). t ++ drop (length t) ws ≡ ws) (eqb w 0) [] (through_zero ws) (λ e. refl) (λ e. through-front ws))

-- so is a text behind m words
headed-front : (m : ℕ) (ws : List ℕ) → take m ws ++ through_zero (drop m ws) ++ drop (length (take m ws ++ through_zero (drop m ws))) ws ≡ ws
unfolding through_zero
headed-front zero ws = through-front ws
headed-front (suc m) [] = refl
headed-front (suc m) (w ∷ ws) = ap (λ (l : List ℕ). w ∷ l) (headed-front m ws)

-- the words that the first binding leaves
abbrev pub after : Part → List ℕ → List ℕ
after p ws = drop (length (first_binding p ws)) ws

pub binding-front : (p : Part) (ws : List ℕ) → first_binding p ws ++ after p ws ≡ ws
unfolding first_binding
binding-front p ws = headed-front (head_words p) ws

-- it takes at least a word
pub after-shorter : (p : Part) (w : ℕ) (ws : List ℕ) → length (after p (w ∷ ws)) ≤ length ws
unfolding first_binding
after-shorter Strings w ws = rw length-drop (omega arith)
after-shorter Security w ws = rw length-drop (omega arith)

pub head-positive : (p : Part) → 0 < head_words p
head-positive Strings = omega arith
head-positive Security = omega arith

-- the first binding of words in a list of bytes: all of them, or a head and a text
module _ (p : Part) (s : List ℕ) (at n : ℕ) where
  pub binding-short : n ≤ head_words p → length (first_binding p (words s at n)) ≡ n
  unfolding first_binding through_zero
  binding-short h =
      let l = length-words s at n in
      let q : length (words s at n) ≤ head_words p = omega arith in
      rw (take_all (head_words p) (words s at n) q, drop_of_length-le (words s at n) {i = head_words p} q, append-nil (words s at n)) l

  pub binding-long : head_words p ≤ n → length (first_binding p (words s at n)) ≡ head_words p + length (through_zero (words s (at + 2 * head_words p) (n - head_words p)))
  unfolding first_binding
  binding-long h =
      let l = length-words s at n in
      let q : head_words p ≤ length (words s at n) = omega arith in
      rw (length-append, length-take-le (head_words p) (words s at n) q, drop-words s (head_words p) at n h)

-- ---- the bindings of a part

-- a bound of at least the number of words is no bound
no_bound : (p : Part) (n m : ℕ) (ws : List ℕ) → length ws ≤ n → length ws ≤ m → bindings_up_to n p ws ≡ bindings_up_to m p ws
unfolding bindings_up_to
no_bound p zero zero ws h l = refl
no_bound p zero (suc m) [] h l = refl
no_bound p zero (suc m) (w ∷ ws) h l = absurd (omega arith)
no_bound p (suc n) zero [] h l = refl
no_bound p (suc n) zero (w ∷ ws) h l = absurd (omega arith)
no_bound p (suc n) (suc m) [] h l = refl
no_bound p (suc n) (suc m) (w ∷ ws) h l =
    let q = after-shorter p w ws in
    ap (λ (t : List (List ℕ)). cond (eqb w 0) [] (first_binding p (w ∷ ws) ∷ t)) (no_bound p n m (after p (w ∷ ws)) (omega arith) (omega arith))

pub bindings-none : (p : Part) → bindings_of p [] ≡ []
unfolding bindings_of bindings_up_to
bindings-none p = refl

pub bindings-end : (p : Part) (ws : List ℕ) → bindings_of p (0 ∷ ws) ≡ []
unfolding bindings_of bindings_up_to
bindings-end p ws = refl

pub bindings-more : (p : Part) (w : ℕ) (ws : List ℕ) → (w ≡ 0 → ⊥) → bindings_of p (w ∷ ws) ≡ first_binding p (w ∷ ws) ∷ bindings_of p (after p (w ∷ ws))
unfolding bindings_of bindings_up_to
bindings-more p w ws h =
    let q = after-shorter p w ws in
    let l : length (after p (w ∷ ws)) ≤ length (after p (w ∷ ws)) = omega arith in
    rw (ne_eqb w 0 h) (ap (λ (t : List (List ℕ)). first_binding p (w ∷ ws) ∷ t) (no_bound p (length ws) (length (after p (w ∷ ws))) (after p (w ∷ ws)) q l))

-- ---- whether words are a part

same-front : (a x y : List ℕ) → same_words (a ++ x) (a ++ y) ≡ same_words x y
unfolding same_words
same-front [] x y = refl
same-front (w ∷ a) x y = rw (eq-eqb w w refl) (same-front a x y)

pub part_none : (p : Part) → is_part p [] ≡ false
unfolding is_part same_words joined
part_none p = rw (bindings-none p)

-- a zero word where a tower or service word is due is the last
pub part_end : (p : Part) (ws : List ℕ) → is_part p (0 ∷ ws) ≡ eqb (length ws) 0
unfolding is_part same_words joined
part_end p [] = rw (bindings-end p [])
part_end p (w ∷ ws) = rw (bindings-end p (w ∷ ws), eqb-suc-zero (length ws))

-- another word begins a binding, and what it leaves is judged
pub part-more : (p : Part) (w : ℕ) (ws : List ℕ) → (w ≡ 0 → ⊥) → is_part p (w ∷ ws) ≡ is_part p (after p (w ∷ ws))
unfolding is_part joined
part-more p w ws h =
    let b = first_binding p (w ∷ ws) in
    let r = after p (w ∷ ws) in
    let e : joined (bindings_of p (w ∷ ws)) ++ (0 ∷ []) ≡ b ++ (joined (bindings_of p r) ++ (0 ∷ [])) = rw (bindings-more p w ws h) (append_assoc b (joined (bindings_of p r)) (0 ∷ [])) in
    rw e (ap (λ (l : List ℕ). same_words l (b ++ (joined (bindings_of p r) ++ (0 ∷ [])))) (sym (binding-front p (w ∷ ws))) ∙ same-front b r (joined (bindings_of p r) ++ (0 ∷ [])))

-- ---- words in a list of bytes: whether they are a part, and where binding k stands

module _ (p : Part) (s : List ℕ) (at n : ℕ) where
  -- no words
  module _ (z : n ≡ 0) where
    pub is-part-none : is_part p (words s at n) ≡ false
    is-part-none = rw (words-none s at n z) (part_none p)

    pub find_none : (k : ℕ) → place (bindings_of p (words s at n)) k at ≡ refusal 24
    unfolding place
    find_none k = rw (words-none s at n z, bindings-none p)

  module _ (h : 0 < n) where
    next : words s at n ≡ field s at 2 ∷ words s (at + 2) (n - 1)
    next = words_more s at n (n - 1) (omega arith)

    -- a zero word
    module _ (z : field s at 2 ≡ 0) where
      pub is-part-end : is_part p (words s at n) ≡ eqb n 1
      is-part-end =
          rw (next, z, part_end p (words s (at + 2) (n - 1)), length-words s (at + 2) (n - 1))
          (same_test (eqb (n - 1) 0) (eqb n 1)
          (λ e. let q = eqb-true (n - 1) 0 e in eq-eqb n 1 (omega arith))
          (λ e. let q = eqb-true n 1 e in eq-eqb (n - 1) 0 (omega arith)))

      pub find-end : (k : ℕ) → place (bindings_of p (words s at n)) k at ≡ refusal 24
      unfolding place
      find-end k = rw (next, z, bindings-end p (words s (at + 2) (n - 1)))

    -- a binding of m words
    module _ (z : field s at 2 ≡ 0 → ⊥) (m : ℕ) (e : m ≡ length (first_binding p (words s at n))) (l : m ≤ n) where
      left : after p (words s at n) ≡ words s (at + 2 * m) (n - m)
      left = rw (← e) (drop-words s m at n l)

      pub is-part-more : is_part p (words s at n) ≡ is_part p (words s (at + 2 * m) (n - m))
      is-part-more = rw (← left, next) (part-more p (field s at 2) (words s (at + 2) (n - 1)) z)

      pub find-here : place (bindings_of p (words s at n)) 0 at ≡ record { answer = 0; from = at; to = at + 2 * m }
      unfolding place
      find-here = rw (e, next, bindings-more p (field s at 2) (words s (at + 2) (n - 1)) z)

      pub find-later : (k : ℕ) → place (bindings_of p (words s at n)) (suc k) at ≡ place (bindings_of p (words s (at + 2 * m) (n - m))) k (at + 2 * m)
      unfolding place
      find-later k = rw (← left, e, next, bindings-more p (field s at 2) (words s (at + 2) (n - 1)) z)
