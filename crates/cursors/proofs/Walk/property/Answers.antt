-- `Walk::property`: a property that is there has its fields.
use mathlib.Core.Path.{◌≡◌, refl, sym}
use native.Mathlib.Omega.{arith}
use borrow.Author.Rules.{rules}
use Rattle.std.specs.Prelude.{Err}
use Rattle.kinds.proofs.Answering.{refusal-some}
use Rattle.cursors.proofs.PropertyWalk.{there, property-refused, property-done}
use Rattle.cursors.proofs.Walk.property.Goals as goal

pub returns-in_err-step_answer : goal.returns-in_err-step_answer
returns-in_err-step_answer c =
    let r : c.from_residual.result ≡ Err c.in_err-step_answer.field-0.0 = search rules in
    rw r (property-refused _ _ _ _ c.in_err-step_answer.ensures _ (refusal-some _ refl) refl)

pub overflow_add-at : goal.overflow_add-at
overflow_add-at c = let h = there _ _ _ (sym c.in_ok-step_answer.ensures) in omega arith

pub overflow_add-at-2 : goal.overflow_add-at-2
overflow_add-at-2 c = let h = there _ _ _ (sym c.in_ok-step_answer.ensures) in omega arith

pub overflow_add-from : goal.overflow_add-from
overflow_add-from c = let h = there _ _ _ (sym c.in_ok-step_answer.ensures) in omega arith

pub overflow_add-at-3 : goal.overflow_add-at-3
overflow_add-at-3 c = let h = there _ _ _ (sym c.in_ok-step_answer.ensures) in omega arith

pub overflow_add-met : goal.overflow_add-met
overflow_add-met c =
    let h = there _ _ _ (sym c.in_ok-step_answer.ensures) in
    let z = c.read_u32-2.ensures in
    omega arith

pub overflow_sub-met : goal.overflow_sub-met
overflow_sub-met c = let h = there _ _ _ (sym c.in_ok-step_answer.ensures) in omega arith

pub returns : goal.returns
returns c =
    rw (c.read_guid-clsid.ensures, c.read_guid-policy.ensures, c.read_u32.ensures, c.read_u32-2.ensures)
    (property-done _ _ _ _ c.in_ok-step_answer.ensures refl)
