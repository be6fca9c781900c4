-- `parts::start`: the list is accepted, so S is not above N.
use mathlib.Core.Path.{◌≡◌, sym, ap}
use native.Mathlib.Omega.{arith}
use borrow.Author.Rules.{rules}
use borrow.Author.Tests.{eq-eqb, ne_eqb}
use Rattle.std.specs.Prelude.{Err}
use Rattle.kinds.proofs.Answering.{refusal-some}
use Rattle.bindings.specs.Bindings.{list_length, list_answer}
use Rattle.bindings.proofs.ListAnswers.{accepted}
use Rattle.cursors.specs.Cursors.{no_cursor, part_cursor}
use Rattle.cursors.proofs.parts.start.Goals as goal

pub returns-in_err-list_answer : goal.returns-in_err-list_answer
unfolding part_cursor
returns-in_err-list_answer c =
    let e = c.in_err-list_answer.ensures in
    let r : c.from_residual.result ≡ Err c.in_err-list_answer.field-0.0 = search rules in
    rw (r, ne_eqb _ _ (refusal-some _ e)) (ap no_cursor e)

pub overflow_sub-result : goal.overflow_sub-result
unfolding list_length
overflow_sub-result c =
    let done : list_answer c.args.s.now ≡ 0 = sym c.in_ok-list_answer.ensures in
    let h = accepted _ (done) in omega arith

pub returns-in-Strings : goal.returns-in-Strings
unfolding part_cursor
returns-in-Strings c =
    let done : list_answer c.args.s.now ≡ 0 = sym c.in_ok-list_answer.ensures in
    rw (eq-eqb _ _ (done), c.in-Strings.is, c.read_u16-v.ensures)

pub returns-in-Security : goal.returns-in-Security
unfolding part_cursor
returns-in-Security c =
    let done : list_answer c.args.s.now ≡ 0 = sym c.in_ok-list_answer.ensures in
    let n = c.read_u16-n.ensures in
    rw (eq-eqb _ _ (done), c.in-Security.is, c.read_u16-v.ensures, n)
