-- The tables of the forms, and the test of a form clause by clause.
use Prim.Native.Nat.{ℕ, ◌+◌, ◌*◌, ◌<◌, ◌≤◌}
use mathlib.Core.Path.{◌≡◌, refl, sym, ap, ◌∙◌}
use mathlib.Core.Bool.{Bool, true, false, ◌&&◌}
use mathlib.Core.List.{List, map}
use borrow.Author.Tests.{leb-true, lt-ltb, le-ltb}
use lib.ListN.{length, get_or, get_or-map}
use native.Mathlib.Omega.{arith}
use lib.Dec.{eqb, ltb, leb}
use Rattle.fields.specs.Fields.{field}
use Rattle.lists.specs.Lists.{every, holding}
use Rattle.lists.proofs.Lists.{every-at-or}
use Rattle.std.proofs.lemmas.List.{get_or_default}
use Rattle.recording.specs.Forms.{told}
use Rattle.recording.specs.declared.forms.Form as coded
use Rattle.recording.specs.Recording.{Form, forms, form_of, whole, mark_fits, form_fits}

-- no call answers more than four numbers
values-few : (k : ℕ) → (form_of k).values ≤ 4
unfolding form_of forms every
values-few k =
    leb-true _ 4 (ap (λ n. leb n 4) (sym (get_or-map (λ (f : Form). f.values) forms k _)) ∙ every-at-or (λ (n : ℕ). leb n 4) (map (λ (f : Form). f.values) forms) 0 k refl refl)

-- the table has each form's numbers
pub form-at : (k : ℕ) (d : coded.Form) → k < 20 → (k < 20) × (get_or (map told forms) k d ≡ told (form_of k)) × ((get_or (map told forms) k d).values ≤ 4)
unfolding form_of forms
form-at k d h =
    let e : get_or (map told forms) k d ≡ told (form_of k) = get_or_default (map told forms) k d (told (form_of 20)) h ∙ get_or-map told forms k _ in
    let n = ap (λ (f : coded.Form). f.values) e in
    (h, e, (let v = values-few k in omega arith))

-- ---- the test of the form with the table's numbers

-- what a chain says whose first links are grouped
grouped : (a b c d e : Bool) → ((((a && b) && c) && d) && e) ≡ (a && (b && (c && (d && (e && true)))))
grouped false b c d e = refl
grouped true false c d e = refl
grouped true true false d e = refl
grouped true true true false e = refl
grouped true true true true false = refl
grouped true true true true true = refl

-- the test but for the numbers of the answer
abbrev pub fits_but_last : List ℕ → ℕ → ℕ → coded.Form → Bool
fits_but_last s first second f = ((eqb (length s) f.width && whole f.first first) && whole f.second second) && mark_fits f.mark s

module _ (s : List ℕ) (first second answer k : ℕ) (e : k ≡ field s 0 1) where
  pub unknown : 20 ≤ k → false ≡ form_fits s first second answer
  unfolding form_fits forms holding
  unknown h = sym (rw (sym e, le-ltb k 20 h))

  pub known : (f : coded.Form) → k < 20 → f ≡ told (form_of k) → (fits_but_last s first second f && eqb answer (8 + 8 * f.values)) ≡ form_fits s first second answer
  unfolding form_fits forms holding
  known f h q =
      grouped (eqb (length s) f.width) (whole f.first first) (whole f.second second) (mark_fits f.mark s) (eqb answer (8 + 8 * f.values))
      ∙ (λ u.
      sym (lt-ltb k 20 h) u
      && (eqb (length s) (q u).width && (whole (q u).first first && (whole (q u).second second && (mark_fits (q u).mark s && (eqb answer (8 + 8 * (q u).values) && true))))))
      ∙ ap (λ (j : ℕ). let f : Form = form_of j in ltb j 20 && (eqb (length s) f.width && (whole f.first first && (whole f.second second && (mark_fits f.mark s && (eqb answer (8 + 8 * f.values) && true)))))) e

-- `a && b`, where `b` is asked for only where `a` holds
pub asked : {x a r v : Bool} (b : Bool) → a ≡ x → a ≡ true → r ≡ b → v ≡ r → v ≡ (x && b)
asked b p t e q = q ∙ e ∙ sym (ap (λ x. x && b) (sym p ∙ t))

pub not_asked : {x a v : Bool} (b : Bool) → a ≡ x → a ≡ false → v ≡ a → v ≡ (x && b)
not_asked b p f q = q ∙ f ∙ sym (ap (λ x. x && b) (sym p ∙ f))
