-- `find::is_served`: the objects of the interfaces are a column.
use Prim.Native.Nat.{ℕ}
use mathlib.Core.Path.{ap, ◌∙◌}
use mathlib.Core.List.{List}
use lib.Dec.{eqb}
use Rattle.lists.specs.Lists.{among}
use Rattle.lists.proofs.Lists.{some-map}
use Rattle.rules.specs.Entries.{Interface}
use Rattle.table_view.specs.View.{interfaces_of}
use Rattle.table_view.proofs.find.is_served.Goals as goal

pub returns : goal.returns
returns c s =
    let oid = c.args.oid.0 in
    c.has.ensures
    ∙ ap (λ (col : List ℕ). among col oid) c.interface_objects.ensures
    ∙ some-map (eqb oid) (λ (i : Interface). i.object) (interfaces_of c.args.words.now)
