-- Equality of GUIDs is decided.
use mathlib.Core.Path.{refl}
use borrow.Author.Tests.{eq-eqb, eqb-true}
use lib.Dec.{eqb}
use Rattle.lists.specs.Guids.{same_guid}
use Rattle.lists.proofs.Tests.{and_intro, and_left, and_right}
use Rattle.lists.proofs.Distinct.{Decides}

-- equality of GUIDs
pub guid-decides : Decides same_guid
guid-decides =
    record {
      sound = λ a b e u.
          record {
            low = eqb-true a.low b.low (and_left (eqb a.low b.low) (eqb a.high b.high) e) u;
            high = eqb-true a.high b.high (and_right (eqb a.low b.low) (eqb a.high b.high) e) u;
          };
      self = λ g. and_intro (eqb g.low g.low) (eqb g.high g.high) (eq-eqb g.low g.low refl) (eq-eqb g.high g.high refl);
    }
