use Rattle.std.proofs.Common.{◌≡◌, ◌≤◌, ◌+◌, ◌-◌, length, drop}
use Rattle.contexts.specs.Contexts.{properties_answer}
use Rattle.contexts.proofs.properties_answer.Given as goal

abbrev pub invariant-loop : goal.invariant-loop
invariant-loop l =
    (l.heads + l.content ≤ length l.t) × (properties_answer (l.n - l.counter) (drop (l.heads + l.content) l.t) ≡ properties_answer l.n l.t)
