-- The requested bindings of words in a list of bytes, one binding after the other.
use Prim.Native.Nat.{ℕ, ◌+◌, ◌-◌, ◌*◌, ◌/◌, ◌<◌, ◌≤◌}
use mathlib.Core.Path.{◌≡◌, refl, sym, ap, ◌∙◌}
use mathlib.Core.Bool.{Bool, true, false, cond, ◌||◌}
use mathlib.Core.List.{List, [], ◌∷◌, ◌++◌, append_assoc}
use native.Mathlib.Omega.{arith}
use borrow.Author.Tests.{eq-eqb, eqb-true}
use lib.Dec.{eqb}
use Rattle.std.specs.List.{list_any}
use Rattle.kinds.proofs.Refusing.{same_test}
use lib.ListN.{length, take, drop, length-append}
use lib.Seq.{take_at}
use Rattle.fields.specs.Fields.{field, written, Bytes}
use Rattle.fields.proofs.Fields.{written_none, written-two}
use Rattle.lists.specs.Lists.{keep, some, among}
use Rattle.bindings.specs.Bindings.{words, first_binding, joined}
use Rattle.bindings.specs.ListBytes.{word_bytes}
use Rattle.bindings.specs.Filter.{requested, chosen, towers_of}
use Rattle.bindings.specs.declared.Part.TheVariants.{Strings}
use Rattle.bindings.proofs.Parts.{words-none, words_more, after, binding-front, drop-words, bindings-none, bindings-end, bindings-more}
use mathlib.Core.Logic.{⊎_elim}
use Rattle.std.specs.declared.ops.Range.{Range}
use Rattle.lists.proofs.Tests.{below_or_not}
use Rattle.bindings.specs.Walk.{next_words, TakesBinding, EndsWalk}
use Rattle.bindings.specs.declared.Walk.{Walk}
use Rattle.bindings.proofs.Walks.{StringsOf, begins-there, size_of_first, all-there}
use Rattle.bindings.proofs.ListBytes.{length-bytes, bytes-append, bytes-then}

-- the library's search for a number
pub any-among : (xs : List ℕ) (x : ℕ) → list_any (λ y. eqb y x) xs ≡ among xs x
unfolding some
any-among [] x = refl
any-among (y ∷ xs) x =
    ap (λ t. t || list_any (λ z. eqb z x) xs) (same_test (eqb y x) (eqb x y) (λ e. eq-eqb x y (sym (eqb-true y x e))) (λ e. eq-eqb y x (sym (eqb-true x y e))))
    ∙ ap (λ t. eqb x y || t) (any-among xs x)

-- the first of the bindings in a row, where it is wanted
kept-first : (b : Bool) (x : List ℕ) (xs : List (List ℕ)) → joined (cond b (x ∷ xs) xs) ≡ chosen b x ++ joined xs
unfolding joined
kept-first true x xs = refl
kept-first false x xs = refl

kept-tower : (b : Bool) (w : ℕ) (ws : List ℕ) → cond b (w ∷ ws) ws ≡ chosen b (w ∷ []) ++ ws
kept-tower true w ws = refl
kept-tower false w ws = refl

length-chosen : (b : Bool) (x : List ℕ) (m : ℕ) → m ≡ length x → length (chosen b x) ≡ cond b m 0
length-chosen true x m e = sym e
length-chosen false x m e = refl

bytes_chosen : (b : Bool) (x y : List ℕ) → word_bytes x ≡ y → word_bytes (chosen b x) ≡ chosen b y
unfolding word_bytes
bytes_chosen true x y e = e
bytes_chosen false x y e = refl

module _ (protocols s : List ℕ) (at n : ℕ) where
  pub requested-none : n ≡ 0 → joined (requested protocols (words s at n)) ≡ []
  unfolding requested keep joined
  requested-none z = rw (words-none s at n z, bindings-none Strings)

  pub towers-none : n ≡ 0 → towers_of protocols (words s at n) ≡ []
  unfolding keep
  towers-none z = rw (words-none s at n z, bindings-none Strings)

  module _ (h : 0 < n) where
    next : words s at n ≡ field s at 2 ∷ words s (at + 2) (n - 1)
    next = words_more s at n (n - 1) (omega arith)

    pub requested-end : field s at 2 ≡ 0 → joined (requested protocols (words s at n)) ≡ []
    unfolding requested keep joined
    requested-end z = rw (next, z, bindings-end Strings (words s (at + 2) (n - 1)))

    pub towers-end : field s at 2 ≡ 0 → towers_of protocols (words s at n) ≡ []
    unfolding keep
    towers-end z = rw (next, z, bindings-end Strings (words s (at + 2) (n - 1)))

    module _ (z : field s at 2 ≡ 0 → ⊥) (m : ℕ) (e : m ≡ length (first_binding Strings (words s at n))) (l : m ≤ n) where
      left : after Strings (words s at n) ≡ words s (at + 2 * m) (n - m)
      left = rw (← e) (drop-words s m at n l)

      requested-next : let rest = requested protocols (words s (at + 2 * m) (n - m)) in
          requested protocols (words s at n) ≡ cond (among protocols (field s at 2)) (first_binding Strings (words s at n) ∷ rest) rest
      unfolding requested keep first_binding
      requested-next = rw (← left, next, bindings-more Strings (field s at 2) (words s (at + 2) (n - 1)) z)

      pub requested-more : joined (requested protocols (words s at n))
          ≡ chosen (among protocols (field s at 2)) (first_binding Strings (words s at n)) ++ joined (requested protocols (words s (at + 2 * m) (n - m)))
      requested-more = ap joined requested-next ∙ kept-first (among protocols (field s at 2)) (first_binding Strings (words s at n)) (requested protocols (words s (at + 2 * m) (n - m)))

      -- by their towers
      towers-next : let rest = towers_of protocols (words s (at + 2 * m) (n - m)) in
          towers_of protocols (words s at n) ≡ cond (among protocols (field s at 2)) (field s at 2 ∷ rest) rest
      unfolding keep first_binding
      towers-next = rw (← left, next, bindings-more Strings (field s at 2) (words s (at + 2) (n - 1)) z)

      pub towers-more : towers_of protocols (words s at n) ≡ chosen (among protocols (field s at 2)) (field s at 2 ∷ []) ++ towers_of protocols (words s (at + 2 * m) (n - m))
      towers-more = towers-next ∙ kept-tower (among protocols (field s at 2)) (field s at 2) (towers_of protocols (words s (at + 2 * m) (n - m)))

      -- by their number of words
      pub counted-more : length (joined (requested protocols (words s at n))) ≡ cond (among protocols (field s at 2)) m 0 + length (joined (requested protocols (words s (at + 2 * m) (n - m))))
      counted-more =
          ap length requested-more ∙ length-append (chosen (among protocols (field s at 2)) (first_binding Strings (words s at n))) _
          ∙ ap (λ (k : ℕ). k + length (joined (requested protocols (words s (at + 2 * m) (n - m))))) (length-chosen (among protocols (field s at 2)) (first_binding Strings (words s at n)) m e)

      first-bytes : Bytes s → at + 2 * n ≤ length s → word_bytes (first_binding Strings (words s at n)) ≡ take (2 * m) (drop at s)
      first-bytes b room =
          let x = first_binding Strings (words s at n) in
          let y = after Strings (words s at n) in
          let w : word_bytes (words s at n) ≡ word_bytes x ++ word_bytes y = ap word_bytes (sym (binding-front Strings (words s at n))) ∙ bytes-append x y in
          let d : drop at s ≡ word_bytes x ++ (word_bytes y ++ drop (at + 2 * n) s) = bytes-then s at n b room ∙ (rw w (append_assoc (word_bytes x) (word_bytes y) (drop (at + 2 * n) s))) in
          let k : length (word_bytes x) ≡ 2 * m = length-bytes x ∙ ap (λ (j : ℕ). 2 * j) (sym e) in
          sym (ap (take (2 * m)) d ∙ take_at (word_bytes x) _ (2 * m) k)

      -- by their bytes
      pub bytes-more : Bytes s → at + 2 * n ≤ length s → word_bytes (joined (requested protocols (words s at n)))
          ≡ chosen (among protocols (field s at 2)) (take (2 * m) (drop at s)) ++ word_bytes (joined (requested protocols (words s (at + 2 * m) (n - m))))
      bytes-more b room =
          ap word_bytes requested-more
          ∙ bytes-append _ _
          ∙ ap (λ (x : List ℕ). x ++ word_bytes (joined (requested protocols (words s (at + 2 * m) (n - m))))) (bytes_chosen (among protocols (field s at 2)) _ _ (first-bytes b room))

-- nothing is left to write
pub written-empty : (buf x : List ℕ) (at : ℕ) → x ≡ [] → written buf at (word_bytes x) ≡ buf
unfolding word_bytes
written-empty buf x at e = rw e (written_none buf at)

-- one binding is written where it is requested, and the others after it
module _ (protocols s : List ℕ) (at n : ℕ) (bytes : Bytes s) (inside : at + 2 * n ≤ length s) (h : 0 < n) (z : field s at 2 ≡ 0 → ⊥)
    (m : ℕ) (e : m ≡ length (first_binding Strings (words s at n))) (l : m ≤ n) where
  first : List ℕ
  first = chosen (among protocols (field s at 2)) (take (2 * m) (drop at s))

  rest : List ℕ
  rest = word_bytes (joined (requested protocols (words s (at + 2 * m) (n - m))))

  whole : word_bytes (joined (requested protocols (words s at n))) ≡ first ++ rest
  unfolding first rest
  whole = bytes-more protocols s at n h z m e l bytes inside

  pub put-room : (to size : ℕ) → to + 2 * length (joined (requested protocols (words s at n))) ≤ size
      → to + length (chosen (among protocols (field s at 2)) (take (2 * m) (drop at s))) + 2 * length (joined (requested protocols (words s (at + 2 * m) (n - m)))) ≤ size
  unfolding first rest
  put-room to size room =
      let k : length first + length rest ≡ 2 * length (joined (requested protocols (words s at n))) = sym (length-append first rest) ∙ ap length (sym whole) ∙ length-bytes _ in
      let r = length-bytes (joined (requested protocols (words s (at + 2 * m) (n - m)))) in
      omega arith

  pub put_step : (buf : List ℕ) (to : ℕ) → to + 2 * length (joined (requested protocols (words s at n))) ≤ length buf
      → let x = chosen (among protocols (field s at 2)) (take (2 * m) (drop at s)) in
      written (written buf to x) (to + length x) (word_bytes (joined (requested protocols (words s (at + 2 * m) (n - m))))) ≡ written buf to (word_bytes (joined (requested protocols (words s at n))))
  unfolding first rest
  put_step buf to room =
      let k = put-room to (length buf) room in
      let r = length-bytes (joined (requested protocols (words s (at + 2 * m) (n - m)))) in
      written-two buf first rest to (length first) refl (omega arith) ∙ ap (written buf to) (sym whole)

-- ---- a walk over the string bindings

-- what is left of the requested bindings, by words and by towers
abbrev pub left_requested : List ℕ → List ℕ → Walk → List ℕ
left_requested protocols s w = joined (requested protocols (words s w.at w.left))

abbrev pub left_towers : List ℕ → List ℕ → Walk → List ℕ
left_towers protocols s w = towers_of protocols (words s w.at w.left)

module _ (protocols s : List ℕ) (w v : Walk) (b : Range ℕ) (of : StringsOf s w) (t : TakesBinding w b v) where
  pub towers-taken : chosen (among protocols (field s b.start 2)) (field s b.start 2 ∷ []) ++ left_towers protocols s v ≡ left_towers protocols s w
  towers-taken =
      rw (t.from, t.at, t.left)
      (sym (towers-more protocols s w.at w.left t.some (begins-there s w v b of t) (next_words w) (size_of_first s w v b of t) t.most))

  pub words-taken : cond (among protocols (field s b.start 2)) ((b.end - b.start) / 2) 0 + length (left_requested protocols s v) ≡ length (left_requested protocols s w)
  words-taken =
      let m : (w.at + 2 * next_words w - w.at) / 2 ≡ next_words w = omega arith in
      rw (t.from, t.to, t.at, t.left, m)
      (sym (counted-more protocols s w.at w.left t.some (begins-there s w v b of t) (next_words w) (size_of_first s w v b of t) t.most))

  -- the bytes that are written
  abbrev taken : List ℕ
  taken = chosen (among protocols (field s b.start 2)) (take (b.end - b.start) (drop b.start s))

  pub room-taken : Bytes s → (to size : ℕ) → to + 2 * length (left_requested protocols s w) ≤ size → to + length taken + 2 * length (left_requested protocols s v) ≤ size
  room-taken bytes to size room =
      let k : w.at + 2 * next_words w - w.at ≡ 2 * next_words w = omega arith in
      rw (t.from, t.to, t.at, t.left, k)
      (put-room protocols s w.at w.left bytes (all-there s w v b of t) t.some (begins-there s w v b of t) (next_words w) (size_of_first s w v b of t) t.most to size room)

  pub bytes-taken : Bytes s → (buf : List ℕ) (to : ℕ) → to + 2 * length (left_requested protocols s w) ≤ length buf
      → written (written buf to taken) (to + length taken) (word_bytes (left_requested protocols s v)) ≡ written buf to (word_bytes (left_requested protocols s w))
  bytes-taken bytes buf to room =
      let k : w.at + 2 * next_words w - w.at ≡ 2 * next_words w = omega arith in
      rw (t.from, t.to, t.at, t.left, k)
      (put_step protocols s w.at w.left bytes (all-there s w v b of t) t.some (begins-there s w v b of t) (next_words w) (size_of_first s w v b of t) t.most buf to room)

module _ (protocols s : List ℕ) (w v : Walk) (of : StringsOf s w) (e : EndsWalk w v) where
  zero-word : 0 < w.left → field s w.at 2 ≡ 0
  zero-word h = rw of.bytes at (e.end h)

  pub requested-ended : left_requested protocols s w ≡ []
  requested-ended =
      ⊎_elim
      (λ (h : 0 < w.left). requested-end protocols s w.at w.left h (zero-word h))
      (λ z. requested-none protocols s w.at w.left (omega arith))
      (below_or_not 0 w.left)

  pub towers-ended : left_towers protocols s w ≡ []
  towers-ended =
      ⊎_elim
      (λ (h : 0 < w.left). towers-end protocols s w.at w.left h (zero-word h))
      (λ z. towers-none protocols s w.at w.left (omega arith))
      (below_or_not 0 w.left)
