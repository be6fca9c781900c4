-- `table_judge::interfaces_held`: the chain tests each row.
use Rattle.std.proofs.Common.{refl, ◌∙◌, arith, rules, tests}
use Rattle.std.proofs.lemmas.Iterator.{YieldsList-from_range}
use Rattle.std.proofs.lemmas.Iterator.Search.{all_from_yields_List}
use Rattle.table_columns.proofs.Chains.{all-table}
use Rattle.table_judge.proofs.LiveChecks.{held_row, held_rows}
use Rattle.table_judge.proofs.interfaces_held.Goals as goal

pub returns : goal.returns
returns c s =
    let ws = c.args.words.now in
    let n = c.interface_count-n.result in
    let test = held_row ws in
    all_from_yields_List test _ _ _ c.all.ensures.ran (YieldsList-from_range 0 n n refl (omega arith)) (λ x b q k. search (rules, tests))
    ∙ all-table test (λ i. i) n 0 n (omega arith) ∙ held_rows ws s n c.interface_count-n.ensures.0
