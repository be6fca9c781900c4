use Rattle.std.proofs.Common.{◌≡◌, ◌-◌}
use Rattle.extensions.specs.Extensions.{pointers_answer}
use Rattle.extensions.proofs.pointers_answer.Given as goal

abbrev pub invariant-loop : goal.invariant-loop
invariant-loop l = pointers_answer l.s l.i (l.n - l.counter) ≡ pointers_answer l.s l.at l.n
