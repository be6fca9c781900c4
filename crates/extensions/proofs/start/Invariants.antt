use Rattle.std.proofs.Common.{◌≡◌, ◌-◌}
use Rattle.extensions.specs.Extensions.{extents_answer, start_of}
use Rattle.extensions.proofs.start.Given as goal

abbrev pub invariant-loop : goal.invariant-loop
invariant-loop l = (extents_answer l.s l.i (l.n - l.counter) ≡ 0) × (start_of l.s l.i (l.k - l.counter) ≡ start_of l.s l.at l.k)
