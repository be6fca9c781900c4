-- A step of a walk over the bindings of a part, and its end.
use Prim.Native.Nat.{ℕ, suc, ◌+◌, ◌*◌, ◌<◌, ◌≤◌}
use mathlib.Core.List.{List}
use lib.ListN.{length}
use Rattle.fields.specs.Fields.{field}
use Rattle.bindings.specs.declared.Part.TheVariants.{Strings}
use mathlib.Core.Path.{◌≡◌, refl, sym, ap, ◌∙◌}
use mathlib.Core.Bool.{Bool, true, false}
use mathlib.Core.Logic.{⊎_elim}
use native.Mathlib.Omega.{arith}
use borrow.Author.Tests.{ne_eqb}
use lib.Dec.{eqb}
use Rattle.std.specs.declared.ops.Range.{Range}
use Rattle.lists.proofs.Tests.{below_or_not}
use Rattle.bindings.specs.Bindings.{words, first_binding, bindings_of, is_part, refusal, place}
use Rattle.std.specs.Prelude.{Option, Some, None}
use Rattle.std.specs.Option.{is_some}
use Rattle.kinds.proofs.Refusing.{true-false}
use Rattle.bindings.specs.Walk.{next_words, TakesBinding, EndsWalk, GivesBinding}
use Rattle.bindings.specs.declared.Walk.{Walk}
use Rattle.bindings.specs.declared.Place.{Place}
use Rattle.bindings.proofs.Parts.{is-part-none, is-part-end, is-part-more, find_none, find-end, find-here, find-later}

-- whether the words that are left are a part
abbrev pub left_is_part : Walk → Bool
left_is_part w = is_part w.part (words w.s.now w.at w.left)

-- where binding k of the words that are left stands
abbrev pub left_place : Walk → ℕ → Place
left_place w k = place (bindings_of w.part (words w.s.now w.at w.left)) k w.at

-- a walk over bindings of s, and of its string part
pub record StringsOf (s : List ℕ) (w : Walk) : Type 0 where
  pub bytes : w.s.now ≡ s
  pub part : w.part ≡ Strings

pub strings-first : (s : List ℕ) (w x : Walk) → w ≡ x → x.s.now ≡ s → x.part ≡ Strings → StringsOf s w
strings-first s w x e bytes part = record { bytes = ap (λ (y : Walk). y.s.now) e ∙ bytes; part = ap (λ (y : Walk). y.part) e ∙ part }

-- a binding that a walk over string bindings takes
module _ (s : List ℕ) (w v : Walk) (b : Range ℕ) (of : StringsOf s w) (t : TakesBinding w b v) where
  pub still-strings : StringsOf s v
  still-strings = record { bytes = t.bytes ∙ of.bytes; part = t.part ∙ of.part }

  pub begins-there : field s w.at 2 ≡ 0 → ⊥
  begins-there = rw of.bytes at t.begins

  pub size_of_first : next_words w ≡ length (first_binding Strings (words s w.at w.left))
  size_of_first = rw (of.part, of.bytes)

  pub all-there : w.at + 2 * w.left ≤ length s
  all-there = rw of.bytes at w.there

module _ (w v : Walk) (b : Range ℕ) (t : TakesBinding w b v) where
  pub part-taken : left_is_part v ≡ left_is_part w
  part-taken =
      rw (t.bytes, t.part, t.at, t.left) (sym (is-part-more w.part w.s.now w.at w.left t.some t.begins (next_words w) refl t.most))

  pub place-taken : left_place w 0 ≡ record { answer = 0; from = b.start; to = b.end }
  place-taken = rw (t.from, t.to) (find-here w.part w.s.now w.at w.left t.some t.begins (next_words w) refl t.most)

  pub place-later : (k : ℕ) → left_place v k ≡ left_place w (suc k)
  place-later k =
      rw (t.bytes, t.part, t.at, t.left) (sym (find-later w.part w.s.now w.at w.left t.some t.begins (next_words w) refl t.most k))

module _ (w v : Walk) (e : EndsWalk w v) where
  pub part-ended : left_is_part w ≡ eqb v.left 1
  part-ended =
      rw e.left
      (⊎_elim
      (λ (h : 0 < w.left). is-part-end w.part w.s.now w.at w.left h (e.end h))
      (λ z. is-part-none w.part w.s.now w.at w.left (omega arith) ∙ sym (ne_eqb w.left 1 (λ q. omega arith)))
      (below_or_not 0 w.left))

  pub place-ended : (k : ℕ) → left_place w k ≡ refusal 24
  place-ended k =
      ⊎_elim
      (λ (h : 0 < w.left). find-end w.part w.s.now w.at w.left h (e.end h) k)
      (λ z. find_none w.part w.s.now w.at w.left (omega arith) k)
      (below_or_not 0 w.left)

-- by whether there was a binding
pub part-passed : (w v : Walk) (r : Option (Range ℕ)) → GivesBinding w r v → is_some r ≡ true → left_is_part v ≡ left_is_part w
part-passed w v None e h = absurd (true-false (sym h))
part-passed w v (Some b) t h = part-taken w v b t

pub part-decided : (w v : Walk) (r : Option (Range ℕ)) → GivesBinding w r v → is_some r ≡ false → left_is_part w ≡ eqb v.left 1
part-decided w v None e h = part-ended w v e
part-decided w v (Some b) t h = absurd (true-false h)
