-- `ExtensionWalk::next`: an extension that is there has its fields.
use mathlib.Core.Path.{◌≡◌, refl, sym}
use native.Mathlib.Omega.{arith}
use borrow.Author.Rules.{rules}
use Rattle.std.specs.Prelude.{Err}
use Rattle.kinds.proofs.Answering.{refusal-some}
use Rattle.cursors.proofs.ExtentWalk.{there, extent-refused, extent-done}
use Rattle.cursors.proofs.extents.ExtensionWalk.next.Goals as goal

pub returns-in_err-step_answer : goal.returns-in_err-step_answer
returns-in_err-step_answer c =
    let r : c.from_residual.result ≡ Err c.in_err-step_answer.field-0.0 = search rules in
    rw r (extent-refused _ _ _ _ _ c.in_err-step_answer.ensures _ (refusal-some _ refl) refl)

pub overflow_add-from : goal.overflow_add-from
overflow_add-from c = let h = there _ _ _ _ (sym c.in_ok-step_answer.ensures) in omega arith

pub overflow_add-self : goal.overflow_add-self
overflow_add-self c = let h = there _ _ _ _ (sym c.in_ok-step_answer.ensures) in omega arith

pub overflow_add-self-2 : goal.overflow_add-self-2
overflow_add-self-2 c = let h = there _ _ _ _ (sym c.in_ok-step_answer.ensures) in omega arith

pub overflow_add-found : goal.overflow_add-found
overflow_add-found c =
    let h = there _ _ _ _ (sym c.in_ok-step_answer.ensures) in
    let n = c.read_u32-size.ensures in
    omega arith

pub overflow_add-rest : goal.overflow_add-rest
overflow_add-rest c = let h = there _ _ _ _ (sym c.in_ok-step_answer.ensures) in omega arith

pub overflow_add-rest-2 : goal.overflow_add-rest-2
overflow_add-rest-2 c =
    let h = there _ _ _ _ (sym c.in_ok-step_answer.ensures) in
    let n = c.read_u32-size.ensures in
    let r = c.rounded.ensures in
    omega arith

pub overflow_sub-rest : goal.overflow_sub-rest
overflow_sub-rest c = let h = there _ _ _ _ (sym c.in_ok-step_answer.ensures) in omega arith

pub returns : goal.returns
returns c =
    rw (c.read_u32.ensures, c.read_guid-id.ensures, c.rounded.ensures, c.read_u32-size.ensures)
    (extent-done _ _ _ _ _ c.in_ok-step_answer.ensures refl)
