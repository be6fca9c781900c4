-- `table_columns::guid_index_of`: what is passed, and the search behind it.
use Rattle.std.proofs.Common.{◌-◌, length, refl, sym, ◌∙◌, rules, tests}
use Rattle.std.proofs.lemmas.Iterator.{YieldsList-from_range}
use Rattle.std.proofs.lemmas.Iterator.Search.{find_from_yields_List}
use Rattle.lists.specs.Guids.{same_guid}
use Rattle.table_columns.specs.Guids.{guid_at, guids}
use Rattle.table_columns.proofs.Chains.{found-table}
use Rattle.table_columns.proofs.GuidColumns.{guids-passed}
use Rattle.table_columns.proofs.guid_index_of.Goals as goal

pub returns : goal.returns
unfolding guids
returns c =
    let v = c.args in
    let at = guid_at v.lows.now v.highs.now in
    let n = length v.lows.now in
    let a = c.passed.result in
    let passed = c.passed.ensures in
    c.unwrap_or.ensures
    ∙ found-table (same_guid v.g) at n a c.find.result passed.0
    (find_from_yields_List (λ i. same_guid v.g (at i)) _ _ _ c.find.ensures.ran (YieldsList-from_range a n (n - a) refl refl) (λ x b q k. search (rules, tests)))
    ∙ sym (guids-passed v.lows.now v.highs.now v.g a passed.0 passed.1)
