-- `properties::start`: the context's refusals, then the byte behind its head.
use mathlib.Core.Path.{◌≡◌, sym, ap}
use borrow.Author.Rules.{rules}
use borrow.Author.Tests.{eq-eqb, ne_eqb}
use Rattle.std.specs.Prelude.{Err}
use Rattle.kinds.proofs.Answering.{refusal-some}
use Rattle.cursors.specs.Cursors.{no_cursor, context_cursor}
use Rattle.cursors.proofs.properties.start.Goals as goal

pub returns-in_err-context_answer : goal.returns-in_err-context_answer
unfolding context_cursor
returns-in_err-context_answer c =
    let e = c.in_err-context_answer.ensures in
    let r : c.from_residual.result ≡ Err c.in_err-context_answer.field-0.0 = search rules in
    rw (r, ne_eqb _ _ (refusal-some _ e)) (ap no_cursor e)

pub returns : goal.returns
unfolding context_cursor
returns c = rw (eq-eqb _ _ (sym c.in_ok-context_answer.ensures), c.read_u32.ensures)
