-- `identifiers::all_true`: the chain's answer, as lists say it.
use Rattle.std.proofs.Common.{Bool, ◌∙◌, rules, tests}
use Rattle.std.proofs.lemmas.Iterator.{YieldsList-from_slice}
use Rattle.std.proofs.lemmas.Iterator.Search.{all_from_yields_List}
use Rattle.table_columns.proofs.Chains.{list_all-every}
use Rattle.identifiers.proofs.all_true.Goals as goal

pub returns : goal.returns
returns c =
    let marks = c.args.marks.now in
    all_from_yields_List (λ (b : Bool). b) _ _ _ c.all.ensures.ran (YieldsList-from_slice marks cc) (λ x b q k. search (rules, tests))
    ∙ list_all-every (λ (b : Bool). b) marks
