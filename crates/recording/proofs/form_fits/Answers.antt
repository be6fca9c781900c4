-- `recording::form_fits`: the clauses of `form_fits` in their order.
use Prim.Native.Nat.{◌+◌, ◌*◌}
use mathlib.Core.Path.{◌≡◌, refl, sym, ap, ◌∙◌}
use mathlib.Core.Bool.{Bool, ◌&&◌}
use borrow.Author.Tests.{eq-eqb, ne_eqb}
use lib.Dec.{eqb}
use lib.ListN.{length}
use Rattle.recording.specs.Recording.{whole, form_fits}
use Rattle.recording.specs.declared.forms.Form.{Form}
use Rattle.recording.proofs.Tables.{unknown, known, fits_but_last, asked, not_asked}
use Rattle.recording.proofs.form_fits.Goals as goal
use Rattle.recording.proofs.form_fits.Goals.{then-s-form, else-s-form, then-is_whole, else-is_whole, then-is_whole-2, else-is_whole-2, Joined-is_whole-2}

pub returns-in_default : goal.returns-in_default
returns-in_default c = unknown _ _ _ _ _ c.byte.ensures c.in_default.ensures

-- all but the last
module _ (c : Joined-is_whole-2) where
  abbrev f : Form
  f = c.in-Some.form

  one : c.if-s-form.value ≡ (eqb (length c.args.s.now) f.width && whole f.first c.args.first)
  one = elim c.if-s-form.branch [
    | then-s-form w ↦ asked _ refl (eq-eqb _ _ w.if-s-form.true) w.is_whole.ensures w.value-is
    | else-s-form w ↦ not_asked _ refl (ne_eqb _ _ w.if-s-form.false) w.value-is
  ]

  two : c.if-is_whole.value ≡ ((eqb (length c.args.s.now) f.width && whole f.first c.args.first) && whole f.second c.args.second)
  two = elim c.if-is_whole.branch [
    | then-is_whole w ↦ asked _ one w.if-is_whole.true w.is_whole-then-is_whole.ensures w.value-is
    | else-is_whole w ↦ not_asked _ one w.if-is_whole.false w.value-is
  ]

  three : c.if-is_whole-2.value ≡ fits_but_last c.args.s.now c.args.first c.args.second f
  three = elim c.if-is_whole-2.branch [
    | then-is_whole-2 w ↦ asked _ two w.if-is_whole-2.true w.mark_fits.ensures w.value-is
    | else-is_whole-2 w ↦ not_asked _ two w.if-is_whole-2.false w.value-is
  ]

  last : {b : Bool} → c.if-is_whole-2.value ≡ b → (b && eqb c.args.answer (8 + 8 * f.values)) ≡ form_fits c.args.s.now c.args.first c.args.second c.args.answer
  last e =
      ap (λ x. x && eqb c.args.answer (8 + 8 * f.values)) (sym e ∙ three)
      ∙ known _ _ _ _ _ c.byte.ensures _ c.in-Some.ensures.0 c.in-Some.ensures.1

pub returns-then-mark_fits : goal.returns-then-mark_fits
returns-then-mark_fits c = last (goal.at.returns-then-mark_fits c).Joined-is_whole-2 c.if-mark_fits.true

pub returns-else-mark_fits : goal.returns-else-mark_fits
returns-else-mark_fits c = c.if-mark_fits.false ∙ last (goal.at.returns-else-mark_fits c).Joined-is_whole-2 c.if-mark_fits.false
