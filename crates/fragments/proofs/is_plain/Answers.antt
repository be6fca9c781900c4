-- `fragments::is_plain`: a form, and not the extended one.
use mathlib.Core.Path.{sym, ◌∙◌}
use borrow.Author.Tests.{ne_eqb}
use Rattle.fragments.proofs.Bytewise.{plain_form}
use Rattle.fragments.proofs.is_plain.Goals as goal

pub returns-then-f-eq-EXTENDED : goal.returns-then-f-eq-EXTENDED
returns-then-f-eq-EXTENDED c = rw c.if-f-eq-EXTENDED.true

pub returns : goal.returns
returns c = c.is_form.ensures ∙ sym (plain_form c.args.f (ne_eqb _ _ c.if-f-eq-EXTENDED.false))
