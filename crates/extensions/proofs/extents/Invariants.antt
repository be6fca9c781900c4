use Rattle.std.proofs.Common.{◌≡◌, ◌-◌}
use Rattle.extensions.specs.Extensions.{extents_answer, start_of}
use Rattle.extensions.proofs.extents.Given as goal

abbrev pub invariant-loop : goal.invariant-loop
invariant-loop l = (extents_answer l.s l.i (l.n - l.counter) ≡ extents_answer l.s l.at l.n) × (start_of l.s l.i (l.n - l.counter) ≡ start_of l.s l.at l.n)
