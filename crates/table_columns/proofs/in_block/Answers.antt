-- `table_columns::in_block`: the fold's answer, as lists say it.
use Rattle.std.proofs.Common.{◌||◌, false, length, refl, ◌∙◌, arith, rules, tests}
use Rattle.std.proofs.lemmas.Iterator.{YieldsList-from_range}
use Rattle.std.proofs.lemmas.Iterator.Consumers.{fold_from_yields_List}
use Rattle.lists.specs.Guids.{same_guid}
use Rattle.table_columns.specs.Guids.{guid_at, guids}
use Rattle.table_columns.proofs.Chains.{fold-table}
use Rattle.table_columns.proofs.in_block.Goals as goal

pub returns : goal.returns
unfolding guids
returns c =
    let v = c.args in
    let at = guid_at v.lows.now v.highs.now in
    let n = length v.lows.now in
    fold_from_yields_List _ (λ b i. b || same_guid v.g (at i)) false _ c.fold.ensures.ran (YieldsList-from_range 0 n n refl (omega arith)) (λ a x b q k. search (rules, tests))
    ∙ fold-table (same_guid v.g) at n false 0 n (omega arith)
