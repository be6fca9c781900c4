-- `table_columns::all_within`: the chain's answer, as lists say it.
use Rattle.std.proofs.Common.{ℕ, ◌-◌, Bool, not, leb, ◌∙◌, rules, tests}
use Rattle.std.proofs.lemmas.Iterator.{YieldsList-from_slice}
use Rattle.std.proofs.lemmas.Iterator.Search.{all_from_yields_List}
use Rattle.table_columns.proofs.Chains.{list_all-every}
use Rattle.table_columns.proofs.all_within.Goals as goal

pub returns : goal.returns
returns c =
    let v = c.args in
    let test : ℕ → Bool = λ t. not (leb v.limit (v.clock - t)) in
    all_from_yields_List test _ _ _ c.all.ensures.ran (YieldsList-from_slice v.col.now cc) (λ x b q k. search (rules, tests))
    ∙ list_all-every test v.col.now
