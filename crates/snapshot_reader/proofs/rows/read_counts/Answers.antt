-- `rows::read_counts`: the first k counts are read.
use mathlib.Core.Path.{sym, ap, ◌∙◌}
use native.Mathlib.Omega.{arith}
use lib.ListN.{get_or}
use Rattle.lists.specs.Lists.{tabulate}
use Rattle.lists.proofs.Lists.{tabulate-ext, tabulate-get_or}
use Rattle.snapshot_reader.proofs.rows.read_counts.Goals as goal

pub returns : goal.returns
returns c =
    let xs = c.loop-k.count-items in
    sym (tabulate-get_or xs 0)
    ∙ ap (λ n. tabulate n (λ i. get_or xs i 0)) c.loop-k-test.array_long
    ∙ tabulate-ext 9 _ _ (λ i h. c.loop-k.invariant i (omega arith))
