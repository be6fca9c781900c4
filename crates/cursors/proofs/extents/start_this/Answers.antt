-- `extents::start_this`: the header's refusals, then its extensions.
use mathlib.Core.Path.{◌≡◌, refl}
use borrow.Author.Rules.{rules}
use Rattle.std.specs.Prelude.{Err}
use Rattle.kinds.proofs.Answering.{refusal-some}
use Rattle.cursors.proofs.ExtentWalk.{this-accepted, this-refused, this-start}
use Rattle.cursors.proofs.extents.start_this.Goals as goal

pub returns-in_err-judge : goal.returns-in_err-judge
returns-in_err-judge c =
    let r : c.from_residual.result ≡ Err c.in_err-judge.field-0.0 = search rules in
    rw r (this-refused _ _ c.in_err-judge.ensures _ (refusal-some _ refl) refl)

pub first-requires : goal.first-requires
first-requires c = this-accepted _ _ c.in_ok-judge.ensures refl

pub returns : goal.returns
returns c = this-start _ _ c.in_ok-judge.ensures _ refl c.first.ensures
