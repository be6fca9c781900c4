-- Bytes as they come: what one byte more does to a list of bytes, its fields, its form and its tail.
use Prim.Native.Nat.{ℕ, suc, zero, ◌+◌, ◌-◌, ◌*◌, ◌/◌, ◌<◌, ◌≤◌, min}
use mathlib.Core.Path.{◌≡◌, refl, sym, ap, ◌∙◌}
use mathlib.Core.Bool.{Bool, true, false, cond, not, ◌&&◌, and-true, and-eq-true_iff}
use mathlib.Core.List.{List, [], ◌∷◌, ◌++◌}
use native.Mathlib.Omega.{arith}
use borrow.Author.Tests.{eq-eqb, ne_eqb, eqb-true, eqb-false, ltb-true, ltb-false, le-leb, lt-leb, leb-true, leb-false, not-true}
use lib.Dec.{eqb, ltb, leb}
use lib.ListN.{length, get_or, take, drop, length-append, length-drop, get_or-append, get_or-eq_default}
use lib.Seq.{get_or-drop, get_or-take, ext_get_or, length-take-le, drop-append-le, get_or-append_seam}
use Rattle.kinds.proofs.Refusing.{by-test, true-false, ne-differ, eq-differ}
use Rattle.fields.specs.Fields.{bytes_number, field, Bytes}
use Rattle.fields.proofs.Fields.{field_in, field-front}
use Rattle.bindings.specs.Bindings.{words, count, split}
use Rattle.bindings.proofs.ListAnswers.{words-front}
use Rattle.bindings.proofs.Parts.{length-words}
use Rattle.bindings.proofs.ListBytes.{by_bool}
use Rattle.elements.specs.Elements.{signature}
use Rattle.references.specs.References.{is_form, is_extended, fixed_size}
use Rattle.references.proofs.Forms.{by_form_lem}
use Rattle.list_walk.specs.Walk.{list_step, walk_list}
use Rattle.fragments.specs.Fragments.{is_plain, form_of, in_tail}
use Rattle.list_walk.proofs.Walks.{walk-append}
use Rattle.list_walk.proofs.TextBlocks.{pair}

-- ---- lists of bytes

pub front_bytes : (s t : List ℕ) → Bytes (s ++ t) → Bytes s
front_bytes s t h i =
    by_bool (ltb i (length s))
    (λ e. let l : i < length s = ltb-true _ _ e in rw (get_or-append s t 0 i l) at (h i))
    (λ e. let l : length s ≤ i = ltb-false _ _ e in rw (get_or-eq_default s 0 l) (omega arith))

pub length_more : (s : List ℕ) (b : ℕ) → length (s ++ (b ∷ [])) ≡ length s + 1
length_more s b = length-append s (b ∷ [])

-- bytes that agree have the same fields
pub field-agree : (h s : List ℕ) (m at w : ℕ) → ((i : ℕ) → i < m → get_or h i 0 ≡ get_or s i 0) → m ≤ length h → m ≤ length s → at + w ≤ m → field h at w ≡ field s at w
field-agree h s m at w same lh ls room =
    let rh : at + w ≤ length h = omega arith in
    let rs : at + w ≤ length s = omega arith in
    let nh : length (take w (drop at h)) ≡ w = length-take-le w (drop at h) (rw (length-drop at h) (omega arith)) in
    let ns : length (take w (drop at s)) ≡ w = length-take-le w (drop at s) (rw (length-drop at s) (omega arith)) in
    let e : take w (drop at h) ≡ take w (drop at s) =
    ext_get_or 0 _ _ (nh ∙ sym ns)
    (λ i l.
    let q : i < w = omega arith in
    let p : at + i < m = omega arith in
    rw (get_or-take w (drop at h) i 0 q, get_or-take w (drop at s) i 0 q, get_or-drop at h i 0, get_or-drop at s i 0) (same (at + i) p)) in
    field_in h at w rh ∙ ap bytes_number e ∙ sym (field_in s at w rs)

-- ---- the form, and the tail

-- flags that are read here are those of one of three forms
pub by-plain : {P : Type 0} (f : ℕ) → is_plain f ≡ true → (f ≡ 1 → P) → (f ≡ 2 → P) → (f ≡ 4 → P) → P
by-plain f h a b c =
    let p = (and-eq-true_iff (is_form f) (not (is_extended f))).0 h in
    by_form_lem f p.0 a b c (λ e. absurd (eqb-false f 8 (not-true _ p.1) e))

-- the flags are read here where they name a form
pub plain_form : (f : ℕ) → is_extended f ≡ false → is_plain f ≡ is_form f
plain_form f x = ap (λ (b : Bool). is_form f && not b) x ∙ and-true (is_form f)

-- the flags of accepted bytes, and 0 before the header is whole or where it is not accepted
abbrev pub form : List ℕ → ℕ
form s = form_of s (length s)

pub record Formed (s : List ℕ) : Type 0 where
  pub long : 24 ≤ length s
  pub signed : field s 0 4 ≡ signature
  pub named : is_plain (field s 4 4) ≡ true
  pub flags : form s ≡ field s 4 4

pub nonzero-form : (f : ℕ) → is_plain f ≡ true → f ≡ 0 → ⊥
nonzero-form f h e = by-plain f h (λ a. omega arith) (λ a. omega arith) (λ a. omega arith)

pub formed : (s : List ℕ) → (form s ≡ 0 → ⊥) → Formed s
unfolding form_of
formed s h =
    by_bool (leb 24 (length s) && (eqb (field s 0 4) signature && is_plain (field s 4 4)))
    (λ e.
    let a = (and-eq-true_iff _ _).0 e in
    let b = (and-eq-true_iff _ _).0 a.1 in
    record { long = leb-true _ _ a.0; signed = eqb-true _ _ b.0; named = b.1; flags = rw e })
    (λ e. absurd (h (rw e)))

pub form-made : (s : List ℕ) → 24 ≤ length s → field s 0 4 ≡ signature → is_plain (field s 4 4) ≡ true → form s ≡ field s 4 4
unfolding form_of
form-made s l g h = rw (le-leb _ _ l, eq-eqb _ _ g, h)

pub size-least : (f : ℕ) → is_plain f ≡ true → 48 ≤ fixed_size f
unfolding fixed_size
size-least f h = by-plain f h (λ e. rw e (omega arith)) (λ e. rw e (omega arith)) (λ e. rw e (omega arith))

abbrev pub start : List ℕ → ℕ
start s = fixed_size (form s)

abbrev pub tail : List ℕ → List ℕ
tail s = drop (start s) s

-- the bytes of the tail: none where there is no form
abbrev pub tail_length : List ℕ → ℕ
tail_length s = cond (eqb (form s) 0) 0 (length s - start s)

-- the form stays once the header is whole
pub form-stays : (s : List ℕ) (b : ℕ) → 24 ≤ length s → form (s ++ (b ∷ [])) ≡ form s
unfolding form_of
form-stays s b h =
    let m = length_more s b in
    let l : 24 ≤ length (s ++ (b ∷ [])) = omega arith in
    let a : field (s ++ (b ∷ [])) 0 4 ≡ field s 0 4 = field-front s (b ∷ []) 0 4 (omega arith) in
    let e : field (s ++ (b ∷ [])) 4 4 ≡ field s 4 4 = field-front s (b ∷ []) 4 4 (omega arith) in
    rw (le-leb _ _ l, le-leb _ _ h, a, e)

pub form-short : (s : List ℕ) → length s < 24 → form s ≡ 0
unfolding form_of
form-short s h = rw (lt-leb _ _ h)

-- a byte of the tail
pub record Within (s : List ℕ) : Type 0 where
  pub has : Formed s
  pub some : form s ≡ 0 → ⊥
  pub begun : start s ≤ length s

pub within : (s : List ℕ) → in_tail (form s) (length s) ≡ true → Within s
unfolding in_tail
within s h =
    let a = (and-eq-true_iff _ _).0 h in
    let n : form s ≡ 0 → ⊥ = λ z. true-false (sym a.0 ∙ eq-differ _ _ z) in
    record { has = formed s n; some = n; begun = leb-true _ _ a.1 }

pub tail-in : (s : List ℕ) → (form s ≡ 0 → ⊥) → tail_length s ≡ length s - start s
tail-in s h = rw (ne_eqb _ _ h)

module _ (s : List ℕ) (b : ℕ) (w : Within s) where
  pub same-form : form (s ++ (b ∷ [])) ≡ form s
  same-form = form-stays s b w.has.long

  pub tail_more : tail (s ++ (b ∷ [])) ≡ tail s ++ (b ∷ [])
  tail_more = let q = w.begun in rw same-form (drop-append-le (start s) s (b ∷ []) q)

  pub tail-length-more : tail_length (s ++ (b ∷ [])) ≡ tail_length s + 1
  tail-length-more =
      let q = w.begun in
      let m = length_more s b in
      rw (same-form, ne_eqb _ _ w.some) (omega arith)

-- a byte before it, or of no form
pub outside : (s : List ℕ) → in_tail (form s) (length s) ≡ false → (b : ℕ) → (tail_length s ≡ 0) × (tail_length (s ++ (b ∷ [])) ≡ 0)
unfolding in_tail
outside s h b =
    let m = length_more s b in
    let s' = s ++ (b ∷ []) in
    by_bool (eqb (form s) 0)
    (λ e. (
      rw e,
      by_bool (ltb (length s) 24)
          (λ l.
          let k : length s < 24 = ltb-true _ _ l in
          by-test (λ (x : ℕ). x ≡ 0) (eqb (form s') 0) 0 (length s' - start s') (λ z. refl)
          (λ z.
          let f = formed s' (eqb-false _ _ z) in
          let big : 48 ≤ start s' = rw f.flags (size-least _ f.named) in
          omega arith))
          (λ l.
          let k : 24 ≤ length s = ltb-false _ _ l in
          rw (form-stays s b k, e)),
    ))
    (λ e.
    let n = eqb-false _ _ e in
    let f = formed s n in
    let early : leb (start s) (length s) ≡ false = rw (ne-differ _ _ n) at h in
    let l : length s < start s = leb-false _ _ early in
    (rw e (omega arith), rw (form-stays s b f.long, e) (omega arith)))

-- ---- the words that have come

abbrev pub come : List ℕ → ℕ
come t = min (count t) ((length t - 4) / 2)

unfoldable pub walk_of : List ℕ → ℕ
walk_of t = walk_list (split t) 0 0 (words t 4 (come t))

pub walk-early : (t : List ℕ) → length t ≤ 5 → walk_of t ≡ 0
unfolding walk_of words walk_list
walk-early t h = let z : come t ≡ 0 = omega arith in rw z

words_snoc : (t : List ℕ) (at n : ℕ) → words t at (suc n) ≡ words t at n ++ (field t (at + 2 * n) 2 ∷ [])
unfolding words
words_snoc t at zero = let e : at + 2 * 0 ≡ at = omega arith in rw e
words_snoc t at (suc n) =
    let e : at + 2 * suc n ≡ at + 2 + 2 * n = omega arith in
    rw e (ap (λ (l : List ℕ). field t at 2 ∷ l) (words_snoc t (at + 2) n))

module _ (t : List ℕ) (b : ℕ) (long : 5 ≤ length t) where
  more : List ℕ
  more = t ++ (b ∷ [])

  pub same_count : count (t ++ (b ∷ [])) ≡ count t
  same_count = field-front t (b ∷ []) 0 2 (omega arith)

  same-split : split (t ++ (b ∷ [])) ≡ split t
  same-split = field-front t (b ∷ []) 2 2 (omega arith)

  -- no word more
  pub walk_same : come (t ++ (b ∷ [])) ≡ come t → walk_of (t ++ (b ∷ [])) ≡ walk_of t
  unfolding walk_of
  walk_same e =
      let r : 4 + 2 * come t ≤ length t = omega arith in
      rw (same-split, e, words-front t (b ∷ []) 4 (come t) r)

  -- the word that the byte completes
  pub walk-word : (k : ℕ) → length t ≡ 5 + 2 * k → k < count t → walk_of (t ++ (b ∷ [])) ≡ list_step (split t) k (walk_of t) (get_or t (length t - 1) 0 + 256 * b)
  unfolding walk_of walk_list
  walk-word k e l =
      let m = length_more t b in
      let a : come (t ++ (b ∷ [])) ≡ suc k = rw same_count (omega arith) in
      let d : come t ≡ k = omega arith in
      let r : 4 + 2 * k ≤ length t = omega arith in
      let p : 4 + 2 * k + 2 ≤ length (t ++ (b ∷ [])) = omega arith in
      let i : 4 + 2 * k ≡ length t - 1 = omega arith in
      let j : 4 + 2 * k + 1 ≡ length t = omega arith in
      let low : get_or (t ++ (b ∷ [])) (length t - 1) 0 ≡ get_or t (length t - 1) 0 = get_or-append t (b ∷ []) 0 (length t - 1) (omega arith) in
      let w : field (t ++ (b ∷ [])) (4 + 2 * k) 2 ≡ get_or t (length t - 1) 0 + 256 * b =
      pair (t ++ (b ∷ [])) (4 + 2 * k) p ∙ (rw (j, i, low, get_or-append_seam t b [] 0)) in
      let z : 0 + length (words t 4 k) ≡ k = rw (length-words t 4 k) (omega arith) in
      rw (same-split, a, d, words_snoc (t ++ (b ∷ [])) 4 k, words-front t (b ∷ []) 4 k r, walk-append (split t) 0 0 (words t 4 k) (field (t ++ (b ∷ [])) (4 + 2 * k) 2 ∷ []), z, w)
