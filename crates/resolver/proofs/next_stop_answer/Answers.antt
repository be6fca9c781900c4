-- `resolver::next_stop_answer`: the number of the place.
use mathlib.Core.Path.{◌∙◌, ap}
use Rattle.rules.specs.Calls.{Reply}
use Rattle.call_look.specs.declared.routing.StopPlace.{StopPlace}
use Rattle.resolver.proofs.next_stop_answer.Goals as goal

pub returns : goal.returns
returns c = ap (λ (p : StopPlace). p.answer) c.from.ensures ∙ ap (λ (r : Reply). r.number) c.next_stop_place.ensures.performed.answered
