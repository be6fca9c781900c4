-- `find::interface_counts`: the object and two counts of the interface's row.
use Prim.Native.Nat.{ℕ}
use mathlib.Core.Path.{ap, ◌∙◌}
use native.Mathlib.Numerals.{add-one}
use lib.ListN.{get_or}
use Rattle.rules.specs.Entries.{count_of}
use Rattle.rules.specs.Rules.{no_interface}
use Rattle.table_view.specs.View.{interfaces_of}
use Rattle.table_view.proofs.find.interface_counts.Goals as goal

pub returns : goal.returns
returns c =
    let ws = c.args.words.now in
    let i = c.args.i in
    λ u.
    record {
      object = record { 0 = c.interface_object.ensures u };
      public = c.count.ensures u;
      private = (c.count-2.ensures ∙ ap (λ (k : ℕ). count_of k (get_or (interfaces_of ws) i no_interface)) (add-one c.args.client)) u;
    }
