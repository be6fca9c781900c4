-- What is read of bytes are arguments that a call can be given.
use Prim.Native.Nat.{ℕ, zero, suc, ◌*◌, ◌/◌, ◌^◌, ◌<◌, ◌≤◌}
use mathlib.Core.Path.{◌≡◌, sym, subst}
use mathlib.Core.List.Memᴰ
use mathlib.Core.List.{List, [], ◌∷◌}
use native.Mathlib.Omega.{arith}
use lib.ListN.{length, get_or, drop, length-replicate, length-take, length-drop}
use Rattle.fields.specs.Fields.{field, Bytes, zeros}
use Rattle.fields.proofs.Fields.{field_bound, guid-fits, drop-bytes, take-bytes}
use Rattle.lists.proofs.Lists.{length-tabulate}
use Rattle.lists.proofs.Elements.{tabulate-in, map-in}
use Rattle.rules.specs.Swapping.{Each}
use Rattle.recording.specs.Recording.{Recorded, Sections, Form, forms, form_of, numbers_of, section_in, behind_sections}
use Rattle.recording.specs.Recording.{behind_section, sections_at, records_in, sections_of, count_of, call_of, recorded_of, code_of}
use Rattle.recording.specs.Statements.{Given, Sliced, Numbers, GivenRead}

-- ---- the parts of arguments

buffer-short : (s : List ℕ) (at : ℕ) → Bytes s → length (zeros (field s at 8)) < 2 ^ 64
buffer-short s at p = let b = field_bound s at 8 p in let l : length (zeros (field s at 8)) ≡ field s at 8 = length-replicate (field s at 8) 0 in omega arith

words-given : (a : List ℕ) → Sliced a → Numbers 8 (numbers_of 8 a)
words-given a q = (
  (λ n m. let r = tabulate-in (length a / 8) (λ k. field a (8 * k) 8) m in subst (λ (v : ℕ). v < 256 ^ 8) (sym r.2) (field_bound a (8 * r.0) 8 q.0)),
  (let l = length-tabulate (length a / 8) (λ k. field a (8 * k) 8) in let s = q.1 in omega arith),
)

pairs-given : (a : List ℕ) → Sliced a → Numbers 2 (numbers_of 2 a)
pairs-given a q = (
  (λ n m. let r = tabulate-in (length a / 2) (λ k. field a (2 * k) 2) m in subst (λ (v : ℕ). v < 256 ^ 2) (sym r.2) (field_bound a (2 * r.0) 2 q.0)),
  (let l = length-tabulate (length a / 2) (λ k. field a (2 * k) 2) in let s = q.1 in omega arith),
)

-- ---- every form

abbrev Good : Form → Type 0
Good f = (s a b : List ℕ) → Bytes s → Sliced a → Sliced b → Given (f.call s a b)

abbrev AllGood : List Form → Type 0
AllGood [] = Unit {0}
AllGood (f ∷ fs) = Good f × AllGood fs

good-at : (fs : List Form) → AllGood fs → (d : Form) → Good d → (k : ℕ) → Good (get_or fs k d)
good-at [] h d g k = g
good-at (f ∷ fs) h d g zero = h.0
good-at (f ∷ fs) h d g (suc k) = good-at fs h.1 d g k

forms-good : AllGood forms
unfolding forms
forms-good = (
  (λ s a b p q r. field_bound s 1 8 p),
  (
    (λ s a b p q r. (field_bound s 1 8 p, guid-fits s 9 p, q)),
    (
      (λ s a b p q r. field_bound s 1 8 p),
      (
        (λ s a b p q r. (field_bound s 1 8 p, field_bound s 9 8 p, guid-fits s 17 p, guid-fits s 33 p, field_bound s 49 4 p)),
        (
          (λ s a b p q r. (field_bound s 1 8 p, guid-fits s 9 p, guid-fits s 25 p, field_bound s 41 4 p)),
          (
            (λ s a b p q r. (field_bound s 1 4 p, guid-fits s 5 p, field_bound s 21 4 p, field_bound s 25 4 p)),
            (
              (λ s a b p q r. (field_bound s 1 4 p, guid-fits s 5 p, field_bound s 21 4 p, field_bound s 25 4 p)),
              (
                (λ s a b p q r. field_bound s 1 4 p),
                (
                  (λ s a b p q r. (field_bound s 1 4 p, q, buffer-short s 5 p)),
                  (
                    (λ s a b p q r. (field_bound s 1 4 p, q, buffer-short s 5 p)),
                    (
                      (λ s a b p q r. field_bound s 1 8 p),
                      (
                        (λ s a b p q r. (field_bound s 1 8 p, field_bound s 9 2 p, words-given a q, words-given b r)),
                        (
                          (λ s a b p q r. field_bound s 1 8 p),
                          (
                            (λ s a b p q r. (field_bound s 1 8 p, buffer-short s 9 p)),
                            (
                              (λ s a b p q r. (field_bound s 1 8 p, pairs-given a q, buffer-short s 9 p)),
                              (
                                (λ s a b p q r. tt),
                                (
                                  (λ s a b p q r. field_bound s 1 8 p),
                                  (
                                    (λ s a b p q r. q),
                                    (
                                      (λ s a b p q r. buffer-short s 1 p),
                                      (
                                        (λ s a b p q r. q),
                                        tt,
                                      ),
                                    ),
                                  ),
                                ),
                              ),
                            ),
                          ),
                        ),
                      ),
                    ),
                  ),
                ),
              ),
            ),
          ),
        ),
      ),
    ),
  ),
)

form-good : (k : ℕ) → Good (form_of k)
unfolding form_of
form-good k = good-at forms forms-good _ (λ s a b p q r. tt) k

-- ---- the sections

-- bytes no longer than these
record Within (s t : List ℕ) : Type 0 where
  bytes : Bytes s
  size : length s ≤ length t

behind-one : (s t : List ℕ) → Within s t → Within (behind_section s) t
behind-one s t w =
    record {
      bytes = drop-bytes (drop 8 s) (field s 0 8) (drop-bytes s 8 w.bytes);
      size = (let a = length-drop (field s 0 8) (drop 8 s) in let b = length-drop 8 s in let c = w.size in omega arith);
    }

behind-within : (n : ℕ) (s t : List ℕ) → Within s t → Within (behind_sections n s) t
unfolding behind_sections
behind-within zero s t w = w
behind-within (suc n) s t w = behind-within n (behind_section s) t (behind-one s t w)

section-sliced : (s t : List ℕ) → Within s t → length t < 2 ^ 64 → Sliced (section_in s)
section-sliced s t w h = (
  take-bytes (field s 0 8) (drop 8 s) (drop-bytes s 8 w.bytes),
  (let a = length-take (field s 0 8) (drop 8 s) in let b = length-drop 8 s in let c = w.size in omega arith),
)

call-given : (s t : List ℕ) → Within s t → length t < 2 ^ 64 → Given (call_of (sections_at s))
unfolding call_of sections_at
call-given s t w h =
    form-good (code_of (sections_at s)) (section_in s) (section_in (behind_sections 1 s)) (section_in (behind_sections 2 s))
    (section-sliced s t w h).0
    (section-sliced (behind_sections 1 s) t (behind-within 1 s t w) h)
    (section-sliced (behind_sections 2 s) t (behind-within 2 s t w) h)

records-given : (n : ℕ) (s t : List ℕ) → Within s t → length t < 2 ^ 64 → Each (λ x. Given (call_of x)) (records_in n s)
unfolding records_in
records-given zero s t w h x m = absurd (Memᴰ.not-nil m)
records-given (suc n) s t w h x (Memᴰ.head e) = subst (λ (y : Sections). Given (call_of y)) (sym e) (call-given s t w h)
records-given (suc n) s t w h x (Memᴰ.tail m) = records-given n (behind_sections 5 s) t (behind-within 5 s t w) h x m

pub given-read : GivenRead
given-read s p h r m =
    let x = map-in recorded_of (sections_of s) m in
    let w : Within (drop 8 s) s = record { bytes = drop-bytes s 8 p; size = (let l = length-drop 8 s in omega arith) } in
    subst (λ (q : Recorded). Given q.call) (sym x.2) (records-given (count_of s) (drop 8 s) s w h x.0 x.1)
