-- `table_settle::is_staying`: what the test reads stands in the row.
use Prim.Native.Nat.{ℕ}
use mathlib.Core.Path.{◌≡◌, ap, ◌∙◌}
use mathlib.Core.Bool.{not}
use lib.Dec.{eqb}
use Rattle.lists.proofs.Lists.{some-map}
use Rattle.lists.proofs.Distinct.{eqb-decides, same-comm}
use Rattle.rules.specs.Entries.{Interface}
use Rattle.table_view.specs.View.{interfaces_of}
use Rattle.table_settle.proofs.is_staying.Goals as goal

-- the test reads the other way round
differs : (r x y : ℕ) → r ≡ y → not (eqb r x) ≡ not (eqb x y)
differs r x y e = ap not (same-comm eqb eqb-decides r x) ∙ ap (λ (k : ℕ). not (eqb x k)) e

pub returns-in-ExporterRemoved : goal.returns-in-ExporterRemoved
returns-in-ExporterRemoved c s =
    rw c.in-ExporterRemoved.is
    (c.ne.ensures ∙ differs _ _ _ c.object_exporter.ensures)

pub returns-in-NoInterface : goal.returns-in-NoInterface
returns-in-NoInterface c s =
    let there = rw (c.interface_objects.ensures, c.oid.ensures) at c.is_among.ensures in
    rw c.in-NoInterface.is (there ∙ some-map _ (λ (p : Interface). p.object) (interfaces_of c.args.words.now))

pub returns-in-Unheard : goal.returns-in-Unheard
returns-in-Unheard c s = rw c.in-Unheard.is c.is_heard_within.ensures
