-- Laws of an answer 0, of where a binding stands, and of a list that stands before other bytes.
use Prim.Native.Nat.{ℕ, suc, zero, ◌+◌, ◌-◌, ◌*◌, ◌≤◌}
use mathlib.Core.Path.{◌≡◌, refl, sym, ap, ◌∙◌}
use mathlib.Core.Bool.{Bool, true, false, not, ◌&&◌, ◌||◌}
use mathlib.Core.Logic.{◌⊎◌, inl, inr, ⊎_elim}
use mathlib.Core.List.{List, [], ◌∷◌, ◌++◌}
use native.Mathlib.Omega.{arith}
use borrow.Author.Tests.{eqb-true, ltb-false, le-ltb, leb-true, le-leb, not-false}
use lib.Dec.{eqb, ltb}
use lib.ListN.{length, take, drop, length-append, take-append-drop}
use lib.Seq.{length-take-le, take-append_seam}
use Rattle.kinds.specs.Refusals.{order}
use Rattle.kinds.proofs.Refusing.{true-false, by-test, passed, passed_on}
use Rattle.fields.proofs.Fields.{field-front}
use Rattle.bindings.specs.Bindings.{words, first_binding, bindings_up_to, bindings_of, is_part, count, split, part_start, part_size}
use Rattle.bindings.specs.Bindings.{part_words, is_bare, two_parts, list_length, front_answer, list_answer, place, binding_at, Within}
use Rattle.bindings.specs.declared.Part.{Part}
use Rattle.bindings.specs.declared.Part.TheVariants.{Strings, Security}
use Rattle.bindings.proofs.Parts.{after, binding-front, length-words}

-- ---- what an answer 0 says

and-true : (a b : Bool) → (a && b) ≡ true → (a ≡ true) × (b ≡ true)
and-true true b e = (refl, e)
and-true false b e = absurd (true-false (sym e))

-- N and S of a list without words
pub bare : (s : List ℕ) → is_bare s ≡ true → (count s ≡ 0) × (split s ≡ 0)
bare s e = let a = and-true _ _ e in (eqb-true (count s) 0 a.0, eqb-true (split s) 0 a.1)

refuted : (b : Bool) → (b ≡ true → ⊥) → b ≡ false
refuted true h = absurd (h refl)
refuted false h = refl

-- a list with words, or with an S
pub not-bare : (s : List ℕ) → (count s ≡ 0 → split s ≡ 0 → ⊥) → is_bare s ≡ false
not-bare s h = refuted (is_bare s) (λ e. let z = bare s e in h z.0 z.1)

-- the list at the front of s is accepted
pub record Front (s : List ℕ) : Type 0 where
  pub enough : list_length s ≤ length s
  pub parts : two_parts s ≡ true
  pub below : split s ≤ count s
  pub part : is_bare s ≡ false → (p : Part) → is_part p (part_words s p) ≡ true

each_part : (s : List ℕ) → is_part Strings (part_words s Strings) ≡ true → is_part Security (part_words s Security) ≡ true → (p : Part) → is_part p (part_words s p) ≡ true
each_part s f g Strings = f
each_part s f g Security = g

-- a list has no words, or two parts
or_cases : (a b : Bool) → (a || b) ≡ true → (a ≡ true) ⊎ (b ≡ true)
or_cases true b e = inl refl
or_cases false b e = inr e

front-held : (s : List ℕ) → list_length s ≤ length s → two_parts s ≡ true → Front s
unfolding two_parts
front-held s h e =
    ⊎_elim
    (λ n.
    let z = bare s n in
    record {
      enough = h;
      parts = e;
      below = omega arith;
      part = λ w. absurd (true-false (sym n ∙ w));
    })
    (λ t.
    let a = and-true _ _ t in
    let b = and-true _ _ a.1 in
    record {
      enough = h;
      parts = e;
      below = leb-true _ _ a.0;
      part = λ w. each_part s b.0 b.1;
    })
    (or_cases (is_bare s) _ e)

or_right : (a : Bool) → (a || true) ≡ true
or_right true = refl
or_right false = refl

-- conversely: two parts
pub parts_held : (s : List ℕ) → split s ≤ count s → is_part Strings (part_words s Strings) ≡ true → is_part Security (part_words s Security) ≡ true → two_parts s ≡ true
unfolding two_parts
parts_held s h f g = rw (le-leb (split s) (count s) h, f, g) (or_right (is_bare s))

pub front : (s : List ℕ) → front_answer s ≡ 0 → Front s
unfolding front_answer
front s done =
    let a = passed (ltb (length s) 4) 13 _ (omega arith) done in
    let b = passed (ltb (length s) (list_length s)) 13 _ (omega arith) a.1 in
    let d = passed (not (two_parts s)) 14 _ (omega arith) b.1 in
    front-held s (ltb-false (length s) (list_length s) b.0) (not-false (two_parts s) d.0)

-- and conversely
pub front-done : (s : List ℕ) → list_length s ≤ length s → two_parts s ≡ true → front_answer s ≡ 0
unfolding front_answer order list_length
front-done s h e =
    let l : 4 ≤ length s = omega arith in
    rw (le-ltb (length s) 4 l, le-ltb (length s) (4 + 2 * count s) h, e)

-- s is accepted as a whole list
pub record Accepted (s : List ℕ) : Type 0 where
  pub whole : length s ≡ list_length s
  pub front : front_answer s ≡ 0
  pub held : Front s

pub accepted : (s : List ℕ) → list_answer s ≡ 0 → Accepted s
unfolding list_answer
accepted s done =
    let a = passed_on (front_answer s) _ done in
    let b = passed (ltb (list_length s) (length s)) 14 _ (omega arith) a.1 in
    let f = front s a.0 in
    let q = ltb-false (list_length s) (length s) b.0 in
    record {
      whole = omega arith;
      front = a.0;
      held = f;
    }

-- and conversely
pub accept : (s : List ℕ) → length s ≡ list_length s → front_answer s ≡ 0 → list_answer s ≡ 0
unfolding list_answer order
accept s h e =
    let l : length s ≤ list_length s = omega arith in
    rw (e, le-ltb (list_length s) (length s) l)

-- ---- a binding lies within its list

-- the first binding and the words that it leaves
lengths : (p : Part) (ws : List ℕ) → length (first_binding p ws) + length (after p ws) ≡ length ws
lengths p ws = sym (length-append (first_binding p ws) (after p ws)) ∙ ap length (binding-front p ws)

within-place : (m n : ℕ) (p : Part) (ws : List ℕ) (k at : ℕ) → at + 2 * length ws ≤ m → Within m (place (bindings_up_to n p ws) k at)
unfolding place bindings_up_to
within-place m zero p ws k at h = omega arith
within-place m (suc n) p [] k at h = omega arith
within-place m (suc n) p (w ∷ ws) zero at h =
    let l = lengths p (w ∷ ws) in
    by-test (λ (bs : List (List ℕ)). Within m (place bs zero at)) (eqb w 0) _ _ (λ e. omega arith) (λ e. omega arith)
within-place m (suc n) p (w ∷ ws) (suc k) at h =
    let l = lengths p (w ∷ ws) in
    by-test (λ (bs : List (List ℕ)). Within m (place bs (suc k) at)) (eqb w 0) _ _
    (λ e. omega arith)
    (λ e. within-place m n p (after p (w ∷ ws)) k (at + 2 * length (first_binding p (w ∷ ws))) (omega arith))

-- the words of a part lie within the list
pub part-within : (s : List ℕ) (p : Part) → Front s → part_start s p + 2 * part_size s p ≤ list_length s
unfolding list_length
part-within s Strings f = let h = f.below in omega arith
part-within s Security f = let h = f.below in omega arith

pub within-binding : (s : List ℕ) (p : Part) (k : ℕ) → Within (length s) (binding_at s p k)
unfolding binding_at bindings_of
within-binding s p k =
    by-test (Within (length s)) (eqb (list_answer s) 0) _ _
    (λ e.
    let a = accepted s (eqb-true _ _ e) in
    let q = part-within s p a.held in
    let w = a.whole in
    let room : part_start s p + 2 * length (part_words s p) ≤ length s = rw (length-words s (part_start s p) (part_size s p)) (omega arith) in
    within-place (length s) (length (part_words s p)) p (part_words s p) k (part_start s p) room)
    (λ e. omega arith)

-- ---- a list before other bytes

-- words within l do not see the bytes after l
pub words-front : (l rest : List ℕ) (at n : ℕ) → at + 2 * n ≤ length l → words (l ++ rest) at n ≡ words l at n
unfolding words
words-front l rest at zero h = refl
words-front l rest at (suc n) h =
    let a : at + 2 ≤ length l = omega arith in
    let b : at + 2 + 2 * n ≤ length l = omega arith in
    rw (field-front l rest at 2 a, words-front l rest (at + 2) n b)

module _ (l rest : List ℕ) (h : 4 ≤ length l) where
  pub count-before : count (l ++ rest) ≡ count l
  count-before = field-front l rest 0 2 (omega arith)

  pub split-before : split (l ++ rest) ≡ split l
  split-before = field-front l rest 2 2 (omega arith)

  pub length_before : list_length (l ++ rest) ≡ list_length l
  unfolding list_length
  length_before = rw count-before

  pub parts-before : list_length l ≤ length l → split l ≤ count l → two_parts (l ++ rest) ≡ two_parts l
  unfolding two_parts list_length
  parts-before e b =
      let f : 4 + 2 * split l ≤ length l = omega arith in
      let g : 4 + 2 * split l + 2 * (count l - split l) ≤ length l = omega arith in
      rw (count-before, split-before, words-front l rest 4 (split l) f, words-front l rest (4 + 2 * split l) (count l - split l) g)

-- a whole list is accepted at the front of longer bytes, and its length is read there
module _ (l rest : List ℕ) (done : list_answer l ≡ 0) where
  room : 4 ≤ length l
  unfolding list_length
  room = let w = (accepted l done).whole in omega arith

  pub list-front-length : list_length (l ++ rest) ≡ length l
  list-front-length = length_before l rest room ∙ sym (accepted l done).whole

  pub list-front : front_answer (l ++ rest) ≡ 0
  list-front =
      let f = (accepted l done).held in
      let e : list_length (l ++ rest) ≤ length (l ++ rest) = omega (arith, list-front-length, length-append l rest) in
      front-done (l ++ rest) e (parts-before l rest room f.enough f.below ∙ f.parts)

  -- the bytes of that length are the list
  pub list-front-taken : take (list_length (l ++ rest)) (l ++ rest) ≡ l
  list-front-taken = rw list-front-length (take-append_seam l rest)

-- the list at the front is a whole list
pub front-list : (s : List ℕ) → front_answer s ≡ 0 → list_answer (take (list_length s) s) ≡ 0
unfolding list_length
front-list s done =
    let f = front s done in
    let l = take (list_length s) s in
    let rest = drop (list_length s) s in
    let e : l ++ rest ≡ s = take-append-drop (list_length s) s in
    let n : length l ≡ list_length s = length-take-le (list_length s) s f.enough in
    let r : 4 ≤ length l = omega arith in
    let c : count l ≡ count s = sym (count-before l rest r) ∙ ap count e in
    let v : split l ≡ split s = sym (split-before l rest r) ∙ ap split e in
    let w : list_length l ≡ length l = omega arith in
    let q : list_length l ≤ length l = omega arith in
    let b : split l ≤ count l = let x = f.below in omega arith in
    let g : two_parts l ≡ true = sym (parts-before l rest r q b) ∙ ap two_parts e ∙ f.parts in
    accept l (sym w) (front-done l q g)
