-- The cycle {element, layout}: the measure is twice the depth that is left, and one more for an element.
use Prim.Native.Nat.{◌+◌, ◌*◌}
use Rattle.references.proofs.+element_layout.Given as goal

abbrev pub decreases-element : goal.decreases-element
decreases-element l = 2 * l.d + 1

abbrev pub decreases-layout : goal.decreases-layout
decreases-layout l = 2 * l.d
