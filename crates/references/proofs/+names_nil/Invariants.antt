-- The cycle {names_nil}: the measure is the depth that is left.
use Rattle.references.proofs.+names_nil.Given as goal

abbrev pub decreases-names_nil : goal.decreases-names_nil
decreases-names_nil l = l.d
