-- `table_judge::heard_recently`: the chain tests each row.
use Rattle.std.proofs.Common.{refl, ◌∙◌, arith, rules, tests}
use Rattle.std.proofs.lemmas.Iterator.{YieldsList-from_range}
use Rattle.std.proofs.lemmas.Iterator.Search.{all_from_yields_List}
use Rattle.table_columns.proofs.Chains.{all-table}
use Rattle.table_judge.proofs.LiveChecks.{heard_row, heard-rows}
use Rattle.table_judge.proofs.heard_recently.Goals as goal

pub returns : goal.returns
returns c s =
    let ws = c.args.words.now in
    let n = c.object_count-n.result in
    let test = heard_row ws in
    all_from_yields_List test _ _ _ c.all.ensures.ran (YieldsList-from_range 0 n n refl (omega arith)) (λ x b q k. search (rules, tests))
    ∙ all-table test (λ i. i) n 0 n (omega arith) ∙ heard-rows ws s n c.object_count-n.ensures.0
