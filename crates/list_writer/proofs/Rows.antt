-- Laws of words with the zero word that ends their part: texts and bindings among them, and whether they are a part.
use Prim.Native.Nat.{ℕ, suc, ◌+◌, ◌-◌, ◌<◌, ◌≤◌}
use mathlib.Core.Path.{◌≡◌, refl, sym, ap, ◌∙◌}
use mathlib.Core.Bool.{false}
use mathlib.Core.List.{List, [], ◌∷◌}
use native.Mathlib.Omega.{arith}
use native.Mathlib.Numerals.{add-one}
use borrow.Author.Tests.{eqb-true, eqb-false, eq-eqb, ne_eqb}
use lib.Dec.{eqb}
use lib.ListN.{length, get_or, drop, length-append, length-drop, get_or-append}
use lib.Seq.{drop-cons, drop-drop, drop-append_seam, drop-append-add, length-take-le}
use Rattle.bindings.specs.Bindings.{through_zero, head_words, first_binding, is_part}
use Rattle.bindings.specs.declared.Part.{Part}
use Rattle.bindings.specs.declared.Part.TheVariants.{Strings, Security}
use Rattle.bindings.proofs.Parts.{part_none, part_end, part-more}
use Rattle.bindings.proofs.ListBytes.{by_bool}
use Rattle.list_writer.specs.Writing.{ended}

head-fits : (p : Part) (n : ℕ) → 2 ≤ n → head_words p ≤ n
head-fits Strings n h = omega arith
head-fits Security n h = h

module _ (ws : List ℕ) where
  pub length-ended : length (ended ws) ≡ length ws + 1
  length-ended = length-append ws (0 ∷ [])

  -- ---- the words from i on

  next : (i : ℕ) → i < length ws → drop i (ended ws) ≡ get_or ws i 0 ∷ drop (i + 1) (ended ws)
  next i h =
      let l : i < length (ended ws) = omega (arith, length-ended) in
      drop-cons (ended ws) i 0 l ∙ (rw (get_or-append ws (0 ∷ []) 0 i h, add-one i))

  end : drop (length ws) (ended ws) ≡ 0 ∷ []
  end = drop-append_seam ws (0 ∷ [])

  past : drop (length ws + 1) (ended ws) ≡ []
  past = drop-append-add ws (0 ∷ []) 1

  -- past the words there is the zero word that ends the part, or nothing
  at-end : {P : Type 0} (i : ℕ) → length ws ≤ i → i ≤ length ws + 1 → (i ≡ length ws → P) → (i ≡ length ws + 1 → P) → P
  at-end i h l f g =
      by_bool (eqb i (length ws)) (λ e. f (eqb-true i (length ws) e)) (λ e. let q = eqb-false i (length ws) e in g (omega arith))

  -- ---- a text

  pub text-here : (i : ℕ) → i < length ws → get_or ws i 0 ≡ 0 → length (through_zero (drop i (ended ws))) ≡ 1
  unfolding through_zero
  text-here i h z = rw (next i h, z)

  pub text-later : (i : ℕ) → i < length ws → (get_or ws i 0 ≡ 0 → ⊥) → length (through_zero (drop i (ended ws))) ≡ suc (length (through_zero (drop (i + 1) (ended ws))))
  unfolding through_zero
  text-later i h z = rw (next i h, ne_eqb (get_or ws i 0) 0 z)

  pub text-last : (i : ℕ) → length ws ≤ i → i ≤ length ws + 1 → i + length (through_zero (drop i (ended ws))) ≡ length ws + 1
  unfolding through_zero
  text-last i h l = at-end i h l (λ e. rw (e, end)) (λ e. rw (e, past) (omega arith))

  -- ---- a binding: its head, and a text

  pub binding-length : (p : Part) (i : ℕ) → i < length ws → i + length (first_binding p (drop i (ended ws))) ≡ i + head_words p + length (through_zero (drop (i + head_words p) (ended ws)))
  unfolding first_binding
  binding-length p i h =
      let n : length (drop i (ended ws)) ≡ length ws + 1 - i = rw length-drop (ap (λ (k : ℕ). k - i) length-ended) in
      let m : head_words p ≤ length (drop i (ended ws)) = head-fits p _ (omega arith) in
      rw (length-append, length-take-le (head_words p) (drop i (ended ws)) m, drop-drop (head_words p) i (ended ws)) (omega arith)

  -- ---- whether they are a part

  pub part-broken : (p : Part) (i : ℕ) → i < length ws → get_or ws i 0 ≡ 0 → is_part p (drop i (ended ws)) ≡ false
  part-broken p i h z =
      let n : length (drop (i + 1) (ended ws)) ≡ length ws - i = rw (length-drop, length-ended) (omega arith) in
      rw (next i h, z, part_end p (drop (i + 1) (ended ws))) (ne_eqb (length (drop (i + 1) (ended ws))) 0 (λ (q : length (drop (i + 1) (ended ws)) ≡ 0). omega arith))

  pub part-on : (p : Part) (i m : ℕ) → i < length ws → (get_or ws i 0 ≡ 0 → ⊥) → m ≡ i + length (first_binding p (drop i (ended ws))) → is_part p (drop i (ended ws)) ≡ is_part p (drop m (ended ws))
  part-on p i m h z e =
      let q = rw (← next i h) at (part-more p (get_or ws i 0) (drop (i + 1) (ended ws)) z) in
      q ∙ ap (is_part p) (drop-drop (length (first_binding p (drop i (ended ws)))) i (ended ws)) ∙ ap (λ (k : ℕ). is_part p (drop k (ended ws))) (sym e)

  pub part-over : (p : Part) (i : ℕ) → length ws ≤ i → i ≤ length ws + 1 → is_part p (drop i (ended ws)) ≡ eqb i (length ws)
  part-over p i h l =
      at-end i h l
      (λ e. rw (e, end, part_end p [], eq-eqb (length ws) (length ws) refl))
      (λ e. rw (e, past, part_none p) (sym (ne_eqb (length ws + 1) (length ws) (λ q. omega arith))))
