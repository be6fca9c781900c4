-- `find::is_held`: the nine counts are looked at.
use mathlib.Core.Path.{refl, ◌∙◌}
use lib.ListN.{get_or}
use Rattle.std.proofs.Common.{rules, tests}
use Rattle.std.proofs.lemmas.Iterator.{YieldsList-from_range}
use Rattle.std.proofs.lemmas.Iterator.Search.{any_from_yields_List}
use Rattle.rules.specs.Rules.{no_interface}
use Rattle.table_view.specs.View.{interfaces_of}
use Rattle.table_view.proofs.Counts.{nonzero_at, any-held}
use Rattle.table_view.proofs.find.is_held.Goals as goal

pub returns : goal.returns
returns c =
    let ws = c.args.words.now in
    any_from_yields_List (nonzero_at (get_or (interfaces_of ws) c.args.i no_interface)) _ _ _ c.any.ensures.ran (YieldsList-from_range 0 9 9 refl refl) (λ x b q k. search (rules, tests))
    ∙ any-held ws c.args.i c.requires.1
