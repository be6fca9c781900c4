-- `resolver::next_stop_place`: a table that is not sound is refused; else the step is the call.
use mathlib.Core.Path.{refl}
use native.Mathlib.Omega.{arith}
use Rattle.table_view.proofs.Steps.{sound-table, unsound-call}
use Rattle.call_look.proofs.Stopping.{refused-stop}
use Rattle.resolver.proofs.next_stop_place.Goals as goal

pub returns-then-not-sound : goal.returns-then-not-sound
returns-then-not-sound c =
    refused-stop _ _ _ 1 (λ z. omega arith) (unsound-call c.sound.ensures _ refl c.if-not-sound.true-raw)

pub next_stop_step-requires : goal.next_stop_step-requires
next_stop_step-requires c = sound-table c.sound.ensures c.if-not-sound.false-raw

pub returns : goal.returns
returns c = c.next_stop_step.ensures
