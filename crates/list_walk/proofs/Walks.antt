-- The walk over a list's words decides as the grammar does.
use Prim.Native.Nat.{ℕ, suc, zero, ◌+◌, ◌-◌, ◌*◌, ◌<◌, ◌≤◌}
use mathlib.Core.Path.{◌≡◌, refl, sym, ap, ◌∙◌}
use mathlib.Core.Bool.{Bool, true, false, cond, ◌&&◌, ◌||◌, and-false}
use mathlib.Core.List.{List, [], ◌∷◌, ◌++◌}
use native.Mathlib.Omega.{arith}
use borrow.Author.Tests.{eq-eqb, ne_eqb, lt-ltb, le-ltb, ltb-true, ltb-false, le-leb}
use lib.Dec.{eqb, ltb, leb, eqb-suc-zero}
use lib.ListN.{length, take, drop, take-append-drop}
use Rattle.bindings.specs.Bindings.{words, through_zero, first_binding, is_part, count, split, is_bare, two_parts}
use Rattle.bindings.specs.declared.Part.{Part}
use Rattle.bindings.specs.declared.Part.TheVariants.{Strings, Security}
use Rattle.bindings.proofs.ListBytes.{by_bool}
use Rattle.bindings.proofs.Parts.{after, after-shorter, part_none, part_end, part-more, length-words, drop-words}
use Rattle.list_walk.specs.Walk.{word_step, walk_part, list_step, walk_list, PartsWalk}

-- ---- one part

pub stays-broken : (p : Part) (ws : List ℕ) → walk_part p 4 ws ≡ 4
unfolding walk_part word_step
stays-broken p [] = refl
stays-broken p (w ∷ ws) = stays-broken p ws

-- from within a text: on to the words that it leaves
text-walk : (p : Part) (ws : List ℕ) → eqb (walk_part p 2 ws) 3 ≡ eqb (walk_part p 0 (drop (length (through_zero ws)) ws)) 3
unfolding walk_part word_step through_zero
text-walk p [] = refl
text-walk p (zero ∷ ws) = refl
text-walk p (suc w ∷ ws) = let z : suc w ≡ 0 → ⊥ = λ e. omega arith in rw (ne_eqb (suc w) 0 z) (text-walk p ws)

-- past a tower or service word
opened-walk : (p : Part) (w : ℕ) (ws : List ℕ) → (w ≡ 0 → ⊥) → eqb (walk_part p 0 (w ∷ ws)) 3 ≡ eqb (walk_part p 0 (after p (w ∷ ws))) 3
unfolding walk_part word_step first_binding through_zero
opened-walk Strings w ws h = rw (ne_eqb w 0 h) (text-walk Strings ws)
opened-walk Security w [] h = rw (ne_eqb w 0 h)
opened-walk Security w (v ∷ ws) h = rw (ne_eqb w 0 h) (text-walk Security ws)

-- n bounds the number of words
walk-up-to : (n : ℕ) (p : Part) (ws : List ℕ) → length ws ≤ n → is_part p ws ≡ eqb (walk_part p 0 ws) 3
unfolding walk_part word_step
walk-up-to zero p [] h = part_none p
walk-up-to zero p (w ∷ ws) h = absurd (omega arith)
walk-up-to (suc n) p [] h = part_none p
walk-up-to (suc n) p (zero ∷ []) h = part_end p []
walk-up-to (suc n) p (zero ∷ (v ∷ ws)) h = part_end p (v ∷ ws) ∙ (rw (stays-broken p ws, eqb-suc-zero (length ws)))
walk-up-to (suc n) p (suc w ∷ ws) h =
    let z : suc w ≡ 0 → ⊥ = λ e. omega arith in
    let q = after-shorter p (suc w) ws in
    part-more p (suc w) ws z ∙ walk-up-to n p (after p (suc w ∷ ws)) (omega arith) ∙ sym (opened-walk p (suc w) ws z)

pub part-walk : (p : Part) (ws : List ℕ) → is_part p ws ≡ eqb (walk_part p 0 ws) 3
part-walk p ws = let l : length ws ≤ length ws = omega arith in walk-up-to (length ws) p ws l

-- ---- both

none : (s : List ℕ) (at : ℕ) → is_part Security (words s at 0) ≡ false
unfolding words
none s at = part_none Security

pub walk-append : (v k m : ℕ) (a b : List ℕ) → walk_list v k m (a ++ b) ≡ walk_list v (k + length a) (walk_list v k m a) b
unfolding walk_list
walk-append v k m [] b = let e : k + 0 ≡ k = omega arith in rw e
walk-append v k m (w ∷ a) b =
    let e : k + suc (length a) ≡ suc k + length a = omega arith in
    rw e (walk-append v (suc k) (list_step v k m w) a b)

-- words before word v
walk-strings : (v k m : ℕ) (ws : List ℕ) → k + length ws ≤ v → walk_list v k m ws ≡ walk_part Strings m ws
unfolding walk_list walk_part list_step
walk-strings v k m [] h = refl
walk-strings v k m (w ∷ ws) h =
    let a : k < v = omega arith in
    let b : k ≡ v → ⊥ = λ e. omega arith in
    rw (lt-ltb k v a, ne_eqb k v b) (walk-strings v (suc k) (word_step Strings m w) ws (omega arith))

-- words after it
walk-security : (v k m : ℕ) (ws : List ℕ) → v < k → walk_list v k m ws ≡ walk_part Security m ws
unfolding walk_list walk_part list_step
walk-security v k m [] h = refl
walk-security v k m (w ∷ ws) h =
    let a : v ≤ k = omega arith in
    let b : k ≡ v → ⊥ = λ e. omega arith in
    rw (le-ltb k v a, ne_eqb k v b) (walk-security v (suc k) (word_step Security m w) ws (omega arith))

-- and from it on
walk-second : (v m w : ℕ) (ws : List ℕ) → walk_list v v m (w ∷ ws) ≡ walk_part Security (cond (eqb m 3) 0 4) (w ∷ ws)
unfolding walk_list walk_part list_step
walk-second v m w ws =
    let a : v ≤ v = omega arith in
    let b : v < suc v = omega arith in
    rw (le-ltb v v a, eq-eqb v v refl) (walk-security v (suc v) (word_step Security (cond (eqb m 3) 0 4) w) ws b)

both-walk : (b : Bool) (ws : List ℕ) → eqb (walk_part Security (cond b 0 4) ws) 3 ≡ (b && eqb (walk_part Security 0 ws) 3)
both-walk true ws = refl
both-walk false ws = rw (stays-broken Security ws)

-- n words of which the first v are the string part
nonempty : (v m : ℕ) (b : List ℕ) → 0 < length b → walk_list v v m b ≡ walk_part Security (cond (eqb m 3) 0 4) b
nonempty v m [] h = absurd (omega arith)
nonempty v m (w ∷ ws) h = walk-second v m w ws

split-walk : (v : ℕ) (a b : List ℕ) → length a ≡ v → 0 < length b → eqb (walk_list v 0 0 (a ++ b)) 3 ≡ (is_part Strings a && is_part Security b)
split-walk v a b e h =
    let f : 0 + length a ≡ v = omega arith in
    let g : 0 + length a ≤ v = omega arith in
    rw (walk-append v 0 0 a b, f, walk-strings v 0 0 a g, nonempty v (walk_part Strings 0 a) b h, both-walk (eqb (walk_part Strings 0 a) 3) b, ← part-walk Strings a, ← part-walk Security b)

take_words : (s : List ℕ) (m at n : ℕ) → m ≤ n → take m (words s at n) ≡ words s at m
unfolding words
take_words s zero at n h = refl
take_words s (suc m) at zero h = absurd (omega arith)
take_words s (suc m) at (suc n) h = rw (take_words s m (at + 2) n (omega arith))

-- the walk over all the words decides exactly as the two parts do
pub parts-walk : PartsWalk
unfolding two_parts
parts-walk s =
    let v = split s in
    let n = count s in
    let all = words s 4 n in
    ap (λ (x : Bool). is_bare s || x)
    (by_bool (ltb v n)
    (λ t.
    let l : v < n = ltb-true v n t in
    let k : v ≤ n = omega arith in
    let a : take v all ≡ words s 4 v = take_words s v 4 n k in
    let b : drop v all ≡ words s (4 + 2 * v) (n - v) = drop-words s v 4 n k in
    let la : length (words s 4 v) ≡ v = length-words s 4 v in
    let lb : 0 < length (words s (4 + 2 * v) (n - v)) = rw (length-words s (4 + 2 * v) (n - v)) (omega arith) in
    let e : words s 4 v ++ words s (4 + 2 * v) (n - v) ≡ all = rw (← a, ← b) (take-append-drop v all) in
    let w = split-walk v (words s 4 v) (words s (4 + 2 * v) (n - v)) la lb in
    rw (t, le-leb v n k, ← e, w))
    (λ t.
    let l : n ≤ v = ltb-false v n t in
    let z : n - v ≡ 0 = omega arith in
    let x : is_part Security (words s (4 + 2 * v) (n - v)) ≡ false = rw z (none s (4 + 2 * v)) in
    rw (t, x, and-false (is_part Strings (words s 4 v)), and-false (leb v n))))
