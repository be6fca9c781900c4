-- `bindings::locate`: the list is accepted, so its parts lie within it.
use mathlib.Core.Path.{sym}
use native.Mathlib.Omega.{arith}
use borrow.Author.Rules.{rules}
use borrow.Author.Tests.{eq-eqb, ne_eqb}
use Rattle.kinds.proofs.Answering.{refusal-some}
use Rattle.bindings.specs.Bindings.{list_length, list_answer, binding_at}
use Rattle.bindings.proofs.ListAnswers.{accepted}
use Rattle.bindings.proofs.locate.Goals as goal

pub returns-in_err-list_answer : goal.returns-in_err-list_answer
unfolding binding_at
returns-in_err-list_answer c = rw (ne_eqb (list_answer c.args.s.now) 0 (refusal-some _ c.in_err-list_answer.ensures)) (search rules)

pub find-requires : goal.find-requires
unfolding list_length
find-requires c = let h = accepted _ (sym c.in_ok-list_answer.ensures) in omega arith

pub overflow_sub-n : goal.overflow_sub-n
unfolding list_length
overflow_sub-n c = let h = accepted _ (sym c.in_ok-list_answer.ensures) in omega arith

pub find-requires-in-Security : goal.find-requires-in-Security
unfolding list_length
find-requires-in-Security c = let h = accepted _ (sym c.in_ok-list_answer.ensures) in omega arith

pub returns-in-Strings : goal.returns-in-Strings
unfolding binding_at
returns-in-Strings c =
    let v = c.read_u16-v.ensures in
    rw (eq-eqb _ _ (sym c.in_ok-list_answer.ensures), c.in-Strings.is, ← v) (rw c.in-Strings.is at c.find.ensures)

pub returns-in-Security : goal.returns-in-Security
unfolding binding_at
returns-in-Security c =
    let n = c.read_u16-n.ensures in
    let v = c.read_u16-v.ensures in
    rw (eq-eqb _ _ (sym c.in_ok-list_answer.ensures), c.in-Security.is, ← v, ← n) (rw c.in-Security.is at c.find-in-Security.ensures)
