-- The cycle {nest}: the measure is the number of levels that are left.
use Rattle.std.proofs.Common.{◌-◌}
use Rattle.objref.proofs.+nest.Given as goal

abbrev pub decreases-nest : goal.decreases-nest
decreases-nest l = 8 - l.n
