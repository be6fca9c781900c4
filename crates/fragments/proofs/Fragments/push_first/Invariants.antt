use Rattle.fragments.proofs.Before.{Left}
use Rattle.fragments.proofs.Fragments.push_first.Given as goal

abbrev pub invariant-loop : goal.invariant-loop
invariant-loop l = Left (record { state = l.initial.state; waiting = l.waiting }) l.bytes l.state l.at
