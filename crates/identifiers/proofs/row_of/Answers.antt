-- `identifiers::row_of`: the bucket has no number, or x is searched for.
use Rattle.std.proofs.Common.{eqb, rules, tests}
use Rattle.std.proofs.lemmas.Iterator.{YieldsList-from_slice}
use Rattle.std.proofs.lemmas.Iterator.Search.{position_from_yields_List}
use Rattle.identifiers.proofs.Laws.{unindexed, row-searched}
use Rattle.identifiers.proofs.row_of.Goals as goal

pub returns-then-rows-b-eq0 : goal.returns-then-rows-b-eq0
returns-then-rows-b-eq0 c = search unindexed

pub returns : goal.returns
returns c =
    let v = c.args in
    row-searched v.x v.col.now
    (position_from_yields_List (eqb v.x) _ _ _ c.position.ensures.ran (YieldsList-from_slice v.col.now cc) (λ x b q k. search (rules, tests)))
