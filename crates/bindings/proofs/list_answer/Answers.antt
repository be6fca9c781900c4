-- `bindings::list_answer`: the front's refusals, then the bytes left over.
use Prim.Native.Nat.{◌<◌}
use mathlib.Core.Path.{◌≡◌, sym}
use native.Mathlib.Omega.{arith}
use borrow.Author.Tests.{ne_eqb, lt-ltb}
use borrow.Author.Rules.{rules}
use lib.ListN.{length}
use Rattle.kinds.specs.Refusals.{order}
use Rattle.kinds.proofs.Answering.{refusal-some}
use Rattle.bindings.specs.Bindings.{front_answer, list_length, list_answer}
use Rattle.bindings.proofs.ListAnswers.{front, accept}
use Rattle.bindings.proofs.list_answer.Goals as goal

pub returns-in_err-front_answer : goal.returns-in_err-front_answer
unfolding list_answer order
returns-in_err-front_answer c =
    rw (ne_eqb (front_answer c.args.s.now) 0 (refusal-some _ c.in_err-front_answer.ensures)) (search rules)

pub returns-then-stated_length-s : goal.returns-then-stated_length-s
unfolding list_answer order
returns-then-stated_length-s c =
    let s = c.args.s.now in
    let l : list_length s < length s = omega arith in
    rw (sym c.in_ok-front_answer.ensures, lt-ltb _ _ l)

pub returns-else-stated_length-s : goal.returns-else-stated_length-s
returns-else-stated_length-s c =
    let s = c.args.s.now in
    let done : front_answer s ≡ 0 = sym c.in_ok-front_answer.ensures in
    let f = (front s done).enough in
    sym (accept s (omega arith) done)
