-- A walk over the extensions of a header.
use Prim.Native.Nat.{ℕ, suc, ◌+◌, ◌*◌, ◌-◌, ◌<◌, ◌≤◌}
use mathlib.Core.Path.{◌≡◌, refl, sym, ap, ◌∙◌}
use mathlib.Core.Bool.{true, false, cond, not}
use mathlib.Core.List.{List}
use mathlib.Core.Logic.{⊎_elim}
use native.Mathlib.Omega.{arith}
use borrow.Author.Tests.{leb-true, le-leb, lt-ltb, le-ltb, ltb-true, not-false, eq-eqb, ne_eqb, eqb-true, eqb-false}
use lib.Dec.{eqb, ltb, leb}
use lib.ListN.{length}
use Rattle.kinds.specs.Refusals.{order}
use Rattle.kinds.proofs.Refusing.{same_test, passed, passed_on}
use Rattle.lists.proofs.Tests.{true-or-false}
use Rattle.fields.specs.Fields.{field, rounded}
use Rattle.extensions.specs.Extensions.{size_at, next_at, extent_answer, extents_answer, start_of, count_at, extents_start, extensions_count, extensions_answer, walk, no_extension, extension_from, extension_at}
use Rattle.extensions.specs.declared.Extension.{Extension}
use Rattle.extensions.proofs.ArrayWalk.{walk-answer, held, accepted, extents-none, some-array}
use Rattle.headers.specs.Headers.{this_walk, this_extension}
use Rattle.extensions.specs.declared.Walked.{Walked}
use Rattle.headers.proofs.HeaderAnswers.{this-number}
use Rattle.headers.proofs.ThisTrip.{version}
use Rattle.cursors.specs.Cursors.{no_extension_cursor, extensions_cursor, this_cursor, extension_step_answer, extension_met, extension_step, walked_extension, ExtensionsWalked, ThisWalked}
use Rattle.cursors.specs.declared.extents.ExtensionCursor.{ExtensionCursor}
use Rattle.cursors.specs.declared.extents.ExtensionStep.{ExtensionStep}
use Rattle.cursors.proofs.Walking.{walked}

-- ---- one step, row by row

module _ (s : List ℕ) (p at n : ℕ) where
  pub no-extent : n ≡ 0 → extension_step_answer s p at n ≡ 24
  unfolding extension_step_answer order
  no-extent z = rw z

  module _ (some : n ≡ 0 → ⊥) where
    pub pointer-short : leb (p + 4) (length s) ≡ false → extension_step_answer s p at n ≡ 13
    unfolding extension_step_answer order
    pointer-short e = rw (ne_eqb _ _ some, e)

    module _ (pointed : leb (p + 4) (length s) ≡ true) where
      pub extent-short : leb (at + 24) (length s) ≡ false → extension_step_answer s p at n ≡ 13
      unfolding extension_step_answer order
      extent-short e = rw (ne_eqb _ _ some, pointed, e)

      module _ (fixed : leb (at + 24) (length s) ≡ true) (m : ℕ) (size : m ≡ rounded (size_at s at)) where
        pub extent-cut : leb (at + 24 + m) (length s) ≡ false → extension_step_answer s p at n ≡ 13
        unfolding extension_step_answer order
        extent-cut e = rw (ne_eqb _ _ some, pointed, fixed, ← size, e)

        pub extent-whole : leb (at + 24 + m) (length s) ≡ true → extension_step_answer s p at n ≡ 0
        unfolding extension_step_answer order
        extent-whole e = rw (ne_eqb _ _ some, pointed, fixed, ← size, e)

-- what an answer 0 of a step says
pub record There (s : List ℕ) (p at n : ℕ) : Type 0 where
  pub some : 0 < n
  pub pointed : p + 4 ≤ length s
  pub whole : at + 24 + rounded (size_at s at) ≤ length s

pub there : (s : List ℕ) (p at n : ℕ) → extension_step_answer s p at n ≡ 0 → There s p at n
unfolding extension_step_answer
there s p at n done =
    let a = passed (eqb n 0) 24 _ (omega arith) done in
    let b = passed (not (leb (p + 4) (length s))) 13 _ (omega arith) a.1 in
    let d = passed (not (leb (at + 24) (length s))) 13 _ (omega arith) b.1 in
    let e = passed (not (leb (at + 24 + rounded (size_at s at)) (length s))) 13 _ (omega arith) d.1 in
    let z : n ≡ 0 → ⊥ = eqb-false _ _ a.0 in
    record { some = omega arith; pointed = leb-true _ _ (not-false _ b.0); whole = leb-true _ _ (not-false _ e.0) }

-- ---- one step, by its answer

module _ (s : List ℕ) (p at n number : ℕ) (e : number ≡ extension_step_answer s p at n) where
  pub extent-refused : (x : Extension) → (number ≡ 0 → ⊥) → x ≡ no_extension number
      → ◌≡◌ {A = ExtensionStep} (record { extension = x; pointer = 0; at = 0; left = 0 }) (extension_step s p at n)
  unfolding extension_step
  extent-refused x z q = rw (← e, ne_eqb _ _ z, q)

  pub extent-done : number ≡ 0 → ◌≡◌ {A = ExtensionStep} (extension_met s p at n) (extension_step s p at n)
  unfolding extension_step
  extent-done z = rw (← e, eq-eqb _ _ z)

-- ---- a walk

-- extension k of n from at, with pointer numbers from p
abbrev numbered : List ℕ → ℕ → ℕ → ℕ → ℕ → Extension
numbered s p at n k = cond (ltb k n) (extension_from s p at k) (no_extension 24)

abbrev Good : List ℕ → ℕ → ℕ → ℕ → Type 0
Good s p at n = (extents_answer s at n ≡ 0) × (0 < n → p + 4 * n ≤ length s)

numbered-none : (s : List ℕ) (p at n k : ℕ) → n ≡ 0 → numbered s p at n k ≡ no_extension 24
numbered-none s p at n k z = let l : n ≤ k = omega arith in rw (le-ltb k n l)

-- the first of extensions that are there, and the others
parts : (s : List ℕ) (at n : ℕ) → 0 < n → extents_answer s at n ≡ 0 → (extent_answer s at ≡ 0) × (extents_answer s (next_at s at) (n - 1) ≡ 0)
unfolding extents_answer
parts s at n some done =
    let k : n ≡ suc (n - 1) = omega arith in
    let a = passed_on (extent_answer s at) _ (ap (extents_answer s at) (sym k) ∙ done) in
    (a.0, (passed_on (extents_answer s (next_at s at) (n - 1)) _ a.1).0)

fewer : (k n : ℕ) → ltb (suc k) n ≡ ltb k (n - 1)
fewer k n =
    same_test _ _
    (λ a. let h = ltb-true (suc k) n a in let l : k < n - 1 = omega arith in lt-ltb _ _ l)
    (λ b. let h = ltb-true k (n - 1) b in let l : suc k < n = omega arith in lt-ltb _ _ l)

module _ (s : List ℕ) (p at n : ℕ) (good : Good s p at n) where
  over : n ≡ 0 → (extension_step s p at n).extension ≡ no_extension 24
  unfolding extension_step
  over z = rw (no-extent s p at n z)

  met : (n ≡ 0 → ⊥) → extension_step s p at n ≡ extension_met s p at n
  met some =
      let h = held s at (parts s at n (omega arith) good.0).0 in
      let l = good.1 (omega arith) in
      let a : p + 4 ≤ length s = omega arith in
      let b : at + 24 ≤ length s = h.fixed in
      let d : at + 24 + rounded (size_at s at) ≤ length s = h.room in
      sym (extent-done s p at n _ refl (extent-whole s p at n some (le-leb _ _ a) (le-leb _ _ b) _ refl (le-leb _ _ d)))

  some_left : (extension_step s p at n).extension.answer ≡ 0 → n ≡ 0 → ⊥
  some_left done z = let h : ◌≡◌ {A = ℕ} 24 0 = sym (ap (λ (x : Extension). x.answer) (over z)) ∙ done in omega arith

  none_left : ((extension_step s p at n).extension.answer ≡ 0 → ⊥) → n ≡ 0
  none_left q =
      ⊎_elim (λ t. eqb-true _ _ t) (λ f. absurd (q (ap (λ (x : ExtensionStep). x.extension.answer) (met (eqb-false _ _ f))))) (true-or-false (eqb n 0))

  first : (extension_step s p at n).extension ≡ numbered s p at n 0
  unfolding extension_from start_of
  first =
      ⊎_elim
      (λ t. let z = eqb-true n 0 t in over z ∙ sym (numbered-none s p at n 0 z))
      (λ f.
      let some : n ≡ 0 → ⊥ = eqb-false n 0 f in
      let l : 0 < n = omega arith in
      let e : p + 4 * 0 ≡ p = omega arith in
      rw (met some, lt-ltb 0 n l, e))
      (true-or-false (eqb n 0))

  stopped : ((extension_step s p at n).extension.answer ≡ 0 → ⊥) → (k : ℕ) → numbered s p at n (suc k) ≡ (extension_step s p at n).extension
  stopped q k = let z = none_left q in numbered-none s p at n (suc k) z ∙ sym (over z)

  module _ (done : (extension_step s p at n).extension.answer ≡ 0) where
    some : n ≡ 0 → ⊥
    some = some_left done

    good-on : Good s (extension_step s p at n).pointer (extension_step s p at n).at (extension_step s p at n).left
    good-on =
        let l = good.1 (omega (arith, some)) in
        rw (met some) ((parts s at n (omega (arith, some)) good.0).1, λ h. omega arith)

    later : (k : ℕ) → numbered s p at n (suc k) ≡ numbered s (extension_step s p at n).pointer (extension_step s p at n).at (extension_step s p at n).left k
    unfolding extension_from start_of
    later k =
        let e : p + 4 * suc k ≡ p + 4 + 4 * k = omega arith in
        let t : ltb (suc k) n ≡ ltb k (n - 1) = fewer k n in
        rw (met some, e, t)

-- the walk from a cursor
from-cursor : (s : List ℕ) (c : ExtensionCursor) → Good s c.pointer c.at c.left → (k : ℕ)
    → (walked_extension s c k).extension ≡ numbered s c.pointer c.at c.left k
from-cursor s =
    walked (λ (c : ExtensionCursor). extension_step s c.pointer c.at c.left) (λ x. x.extension.answer)
    (λ x. record { answer = 0; pointer = x.pointer; at = x.at; left = x.left }) (λ x. x.extension)
    (λ (c : ExtensionCursor) (k : ℕ). numbered s c.pointer c.at c.left k)
    (λ c. Good s c.pointer c.at c.left)
    (λ c g. first s c.pointer c.at c.left g)
    (λ c g done k. (good-on s c.pointer c.at c.left g done, later s c.pointer c.at c.left g done k))
    (λ c g q k. stopped s c.pointer c.at c.left g q k)

-- an accepted header has its extensions where the cursor says
good_start : (s : List ℕ) (at : ℕ) → extensions_answer s at ≡ 0 → (field s at 4 ≡ 0 → ⊥) → Good s (at + 20) (extents_start s at) (count_at s at)
good_start s at ok z =
    let a = accepted s at ok in
    let f = a.front z in (
      ⊎_elim
          (λ t. (extents-none s (extents_start s at) (count_at s at) (eqb-true _ _ t)).0)
          (λ n.
          let q : count_at s at ≡ 0 → ⊥ = eqb-false _ _ n in
          a.extents z (some-array s at 0 f (omega arith)))
          (true-or-false (eqb (count_at s at) 0)),
      λ h. let d = (a.counted z (some-array s at 0 f h)).room in omega arith,
    )

pub extensions-walked : ExtensionsWalked
unfolding extensions_cursor extension_at extensions_count
extensions-walked s at k ok =
    ⊎_elim
    (λ t.
    let z = eqb-true (field s at 4) 0 t in
    let l : 0 ≤ k = omega arith in
    rw (eq-eqb _ _ ok, z, le-ltb k 0 l) (from-cursor s (no_extension_cursor 0) ((extents-none s 0 0 refl).0, λ h. absurd (omega arith)) k ∙ numbered-none s 0 0 0 k refl))
    (λ f.
    let z : field s at 4 ≡ 0 → ⊥ = eqb-false _ _ f in
    rw (eq-eqb _ _ ok, f)
    (from-cursor s (record { answer = 0; pointer = at + 20; at = extents_start s at; left = count_at s at }) (good_start s at ok z) k))
    (true-or-false (eqb (field s at 4) 0))

-- ---- of an ORPCTHIS

pub this-walked : ThisWalked
unfolding this_cursor this_extension
this-walked s k ok = rw (eq-eqb _ _ ok) (extensions-walked s 28 k (version s ok).1)

module _ (s : List ℕ) (x : Walked) (e : x ≡ this_walk s) where
  pub this-accepted : x.answer ≡ 0 → extensions_answer s 28 ≡ 0
  this-accepted z = (version s (sym (this-number s x e) ∙ z)).1

  module _ (r : ExtensionCursor) where
    pub this-refused : (x.answer ≡ 0 → ⊥) → r ≡ no_extension_cursor x.answer → r ≡ this_cursor s
    unfolding this_cursor
    this-refused z q = rw (← this-number s x e, ne_eqb _ _ z) q

    pub this-start : x.answer ≡ 0 → r ≡ extensions_cursor s 28 → r ≡ this_cursor s
    unfolding this_cursor
    this-start z q = rw (← this-number s x e, eq-eqb _ _ z) q

-- ---- of an ORPCTHAT

module _ (s : List ℕ) (at : ℕ) (x : Walked) (e : x ≡ walk s at) where
  answered : x.answer ≡ extensions_answer s at
  answered = ap (λ (y : Walked). y.answer) e ∙ walk-answer s at

  pub that-accepted : x.answer ≡ 0 → extensions_answer s at ≡ 0
  that-accepted z = sym answered ∙ z

  pub that-refused : (r : ExtensionCursor) → (x.answer ≡ 0 → ⊥) → r ≡ no_extension_cursor x.answer → r ≡ extensions_cursor s at
  unfolding extensions_cursor
  that-refused r z q = rw (← answered, ne_eqb _ _ z) q
