use Rattle.std.proofs.Common.{◌≡◌, length, drop}
use Rattle.lists.specs.Lists.{every, among}
use Rattle.identifiers.proofs.Laws.{Met}
use Rattle.identifiers.proofs.all_paired.Given as goal

abbrev pub invariant-loop-x : goal.invariant-loop-x
invariant-loop-x l =
    (length l.met ≡ 128) × (every (among l.col) l.a ≡ every (among l.col) (drop l.x-index l.a)) × Met l.col l.a l.met (drop l.x-index l.a)
