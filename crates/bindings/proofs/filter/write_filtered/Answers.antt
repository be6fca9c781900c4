-- `filter::write_filtered`: the list's refusals, then room; else the list is written.
use mathlib.Core.Path.{◌≡◌, refl, sym, ◌∙◌}
use native.Mathlib.Omega.{arith}
use borrow.Author.Rules.{rules}
use borrow.Author.Tests.{ne_eqb}
use Rattle.std.specs.Prelude.{Err}
use lib.ListN.{length}
use Rattle.kinds.proofs.Answering.{refusal-some}
use Rattle.bindings.proofs.FilterWriting.{answer-list, answer-room, answer-done, write-refused, write_done}
use Rattle.bindings.proofs.filter.write_filtered.Goals as goal

pub returns-in_err-list_answer : goal.returns-in_err-list_answer
returns-in_err-list_answer c =
    let a = c.args in
    let e = c.in_err-list_answer.ensures in
    let bad = refusal-some _ e in
    let r : c.from_residual.result ≡ Err c.in_err-list_answer.field-0.0 = search rules in
    let n = length a.buf.now in
    rw r (write-refused a.protocols.now a.s.now n _ (answer-list a.protocols.now a.s.now n bad ∙ sym e) (λ z. bad (sym e ∙ z)), rw (ne_eqb _ 0 (λ z. bad (sym e ∙ z))))

pub returns-then-buf-size : goal.returns-then-buf-size
returns-then-buf-size c =
    let a = c.args in
    let size = c.filtered_length-size.ensures in
    (write-refused a.protocols.now a.s.now (length a.buf.now) 15 (answer-room a.protocols.now a.s.now (length a.buf.now) (sym c.in_ok-list_answer.ensures) (omega arith)) (λ z. omega arith), refl)

pub returns : goal.returns
returns c =
    let a = c.args in
    let size = c.filtered_length-size.ensures in
    (rw size (write_done _ _ _ (answer-done a.protocols.now a.s.now (length a.buf.now) (sym c.in_ok-list_answer.ensures) (omega arith))), c.put_filtered.ensures)
