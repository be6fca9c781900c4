-- `extents::start_that`: the header's refusals, then its extensions.
use mathlib.Core.Path.{◌≡◌, refl}
use borrow.Author.Rules.{rules}
use Rattle.std.specs.Prelude.{Err}
use Rattle.kinds.proofs.Answering.{refusal-some}
use Rattle.cursors.proofs.ExtentWalk.{that-accepted, that-refused}
use Rattle.cursors.proofs.extents.start_that.Goals as goal

pub returns-in_err-judge : goal.returns-in_err-judge
returns-in_err-judge c =
    let r : c.from_residual.result ≡ Err c.in_err-judge.field-0.0 = search rules in
    rw r (that-refused _ _ _ c.in_err-judge.ensures _ (refusal-some _ refl) refl)

pub first-requires : goal.first-requires
first-requires c = that-accepted _ _ _ c.in_ok-judge.ensures refl
