-- `extensions::padding_answer`: the rows of `padding_answer`.
use Prim.Native.Nat.{◌+◌}
use mathlib.Core.Path.{◌≡◌, sym, ◌∙◌}
use mathlib.Core.Bool.{true}
use borrow.Author.Tests.{leb-true}
use lib.Dec.{leb}
use lib.ListN.{length, take, drop}
use Rattle.kinds.specs.Refusals.{order}
use Rattle.extensions.specs.Extensions.{padding_answer}
use Rattle.fields.specs.Fields.{all_zero}
use Rattle.fields.proofs.Fields.{zero_field}
use Rattle.extensions.proofs.padding_answer.Goals as goal
use Rattle.extensions.proofs.padding_answer.Goals.{Else-not-inside, After-is_zero}

-- the padding is there
inner : (c : Else-not-inside) → leb (c.args.at + c.args.n) (length c.args.s.now) ≡ true
inner c = sym c.inside.ensures ∙ c.if-not-inside.false

-- its number is zero where its bytes are
same : (c : After-is_zero) → c.is_zero.result ≡ all_zero (take c.args.n (drop c.args.at c.args.s.now))
same c = c.is_zero.ensures ∙ zero_field _ _ _ (leb-true _ _ (sym c.inside.ensures ∙ c.if-not-inside.false))

pub returns-then-not-inside : goal.returns-then-not-inside
unfolding padding_answer order
returns-then-not-inside c = simp (sym c.inside.ensures ∙ c.if-not-inside.true)

pub returns-then-is_zero : goal.returns-then-is_zero
unfolding padding_answer order
returns-then-is_zero c =
    simp (inner (goal.at.returns-then-is_zero c).Else-not-inside, sym (same (goal.at.returns-then-is_zero c).After-is_zero) ∙ c.if-is_zero.true)

pub returns-else-is_zero : goal.returns-else-is_zero
unfolding padding_answer order
returns-else-is_zero c =
    simp (inner (goal.at.returns-else-is_zero c).Else-not-inside, sym (same (goal.at.returns-else-is_zero c).After-is_zero) ∙ c.if-is_zero.false)
