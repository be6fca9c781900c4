-- `table_judge::members_live`: the chain tests each row.
use Rattle.std.proofs.Common.{refl, ◌∙◌, arith, rules, tests}
use Rattle.std.proofs.lemmas.Iterator.{YieldsList-from_range}
use Rattle.std.proofs.lemmas.Iterator.Search.{all_from_yields_List}
use Rattle.table_columns.proofs.Chains.{all-table}
use Rattle.lists.proofs.Tests.{and_left}
use Rattle.table_judge.proofs.LiveChecks.{below_row, members-rows}
use Rattle.table_judge.proofs.members_live.Goals as goal

pub returns : goal.returns
returns c s =
    let ws = c.args.words.now in
    let n = c.set_count-n.result in
    let test = below_row c.object_count-objects.result ws in
    all_from_yields_List test _ _ _ c.all.ensures.ran (YieldsList-from_range 0 n n refl (omega arith)) (λ x b q k. search (rules, tests))
    ∙ all-table test (λ i. i) n 0 n (omega arith) ∙ members-rows ws s n _ c.set_count-n.ensures.0 c.object_count-objects.ensures.0 (and_left _ _ c.requires.1)
