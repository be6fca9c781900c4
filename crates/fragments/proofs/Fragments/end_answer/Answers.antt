-- `Fragments::end_answer`: the rows of `end_answer`.
use Prim.Native.Nat.{min}
use mathlib.Core.Path.{◌≡◌, sym, ap, ◌∙◌}
use mathlib.Core.Bool.{true, false, ◌||◌}
use borrow.Author.Tests.{not-true, not-false, ne_eqb}
use lib.Dec.{ltb}
use Rattle.kinds.specs.Refusals.{order}
use borrow.Author.Rules.{rules}
use Rattle.std.specs.Prelude.{Err}
use Rattle.kinds.proofs.Answering.{refusal-eqb}
use Rattle.fragments.specs.Fragments.{is_nil_reference, end_answer}
use Rattle.fragments.proofs.Fragments.end_answer.Goals as goal

pub returns-in_err-read_end : goal.returns-in_err-read_end
unfolding end_answer order
returns-in_err-read_end c =
    let e = c.in_err-read_end.ensures in
    let r : c.from_residual.result ≡ Err c.in_err-read_end.field-0.0 = search rules in
    rw (r, ← e, refusal-eqb c.in_err-read_end.field-0.0)

pub returns-then-is_nil : goal.returns-then-is_nil
unfolding end_answer order
returns-then-is_nil c =
    let e = sym c.in_ok-read_end.ensures in
    let nil = ap is_nil_reference (sym c.fields.ensures) ∙ sym c.is_nil.ensures ∙ c.if-is_nil.true in
    rw (e, nil)

pub returns-then-fits : goal.returns-then-fits
unfolding end_answer order
returns-then-fits c =
    let plain : is_nil_reference c.fields.result ≡ false = sym c.is_nil.ensures ∙ c.if-is_nil.false in
    let e = sym c.in_ok-read_end.ensures in
    let nil = ap is_nil_reference (sym c.fields.ensures) ∙ plain in
    let a = c.args in
    let room : (a.self.over || ltb (min a.w a.n) a.self.kept) ≡ false = not-true _ (sym c.fits.ensures ∙ c.if-fits.true) in
    rw (e, nil, room)

pub returns-else-fits : goal.returns-else-fits
unfolding end_answer order
returns-else-fits c =
    let plain : is_nil_reference c.fields.result ≡ false = sym c.is_nil.ensures ∙ c.if-is_nil.false in
    let e = sym c.in_ok-read_end.ensures in
    let nil = ap is_nil_reference (sym c.fields.ensures) ∙ plain in
    let a = c.args in
    let room : (a.self.over || ltb (min a.w a.n) a.self.kept) ≡ true = not-false _ (sym c.fits.ensures ∙ c.if-fits.false) in
    rw (e, nil, room)
