-- `identifiers::all_found`: the chain's answer, as lists say it.
use Rattle.std.proofs.Common.{◌∙◌, rules, tests}
use Rattle.std.proofs.lemmas.Iterator.{YieldsList-from_slice}
use Rattle.std.proofs.lemmas.Iterator.Search.{all_from_yields_List}
use Rattle.lists.specs.Lists.{among}
use Rattle.table_columns.proofs.Chains.{list_all-every}
use Rattle.identifiers.proofs.all_found.Goals as goal

pub returns : goal.returns
returns c =
    let v = c.args in
    all_from_yields_List (among v.col.now) _ _ _ c.all.ensures.ran (YieldsList-from_slice v.a.now cc) (λ x b q k. search (rules, tests))
    ∙ list_all-every (among v.col.now) v.a.now
