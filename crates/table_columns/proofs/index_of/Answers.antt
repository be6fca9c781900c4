-- `table_columns::index_of`: the chain's answer, as lists say it.
use Rattle.std.proofs.Common.{eqb, ◌∙◌, rules, tests}
use Rattle.std.proofs.lemmas.Iterator.{YieldsList-from_slice}
use Rattle.std.proofs.lemmas.Iterator.Search.{position_from_yields_List}
use Rattle.table_columns.proofs.Chains.{found-first}
use Rattle.table_columns.proofs.index_of.Goals as goal

pub returns : goal.returns
returns c =
    let v = c.args in
    c.unwrap_or.ensures
    ∙ found-first (eqb v.x) v.col.now
    (position_from_yields_List (eqb v.x) _ _ _ c.position.ensures.ran (YieldsList-from_slice v.col.now cc) (λ x b q k. search (rules, tests)))
