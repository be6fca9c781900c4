use Rattle.std.proofs.Common.{◌≡◌, drop}
use Rattle.identifiers.specs.Index.{climbing}
use Rattle.identifiers.proofs.climbs.Given as goal

abbrev pub invariant-loop-x : goal.invariant-loop-x
invariant-loop-x l = climbing 0 l.col ≡ climbing l.last (drop l.x-index l.col)
