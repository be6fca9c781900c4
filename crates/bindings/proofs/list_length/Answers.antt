-- `bindings::list_length`: 0 where the list is refused, or the length by its N.
use mathlib.Core.Path.{sym}
use borrow.Author.Tests.{eq-eqb, ne_eqb}
use Rattle.kinds.proofs.Answering.{refusal-some}
use Rattle.bindings.specs.Bindings.{front_answer}
use Rattle.bindings.proofs.list_length.Goals as goal

pub returns-in-Ok : goal.returns-in-Ok
returns-in-Ok c = rw (eq-eqb (front_answer c.args.s.now) 0 (sym c.in-Ok.ensures)) c.stated_length.ensures

pub returns-in-Err : goal.returns-in-Err
returns-in-Err c = rw (ne_eqb (front_answer c.args.s.now) 0 (refusal-some _ c.in-Err.ensures))
