-- `identifiers::all_paired`: the rows of the words before the index are met, and what is left passes where the whole does.
use mathlib.Core.Path.{refl, sym, ◌∙◌}
use mathlib.Core.Bool.{false}
use native.Mathlib.Omega.{arith}
use borrow.Author.Rules.{rules}
use lib.ListN.{length-set, length-replicate, get_or-replicate}
use lib.Seq.{length-take-le}
use Rattle.table_columns.proofs.Loops.{column-step, column-end, every-passes, every-fails, every-end}
use Rattle.identifiers.proofs.Laws.{met-one, met_all, row_here}
use Rattle.identifiers.proofs.all_paired.Goals as goal

pub loop-x-init : goal.loop-x-init
loop-x-init c = (length-replicate 128 false, refl, λ j b. rw (get_or-replicate 128 j false false (omega arith)))

pub returns-in_default : goal.returns-in_default
returns-in_default c =
    let l = c.loop-x in
    let f = every-fails (column-step _ 0 l.x-index (search rules)) _ l.invariant.1 c.in_default.ensures in
    rw (← f)

pub loop-x-preserved : goal.loop-x-preserved
loop-x-preserved c =
    let l = c.loop-x in
    let col = c.args.col.now in
    let q = c.in-Some.ensures in
    let e = column-step c.args.a.now 0 l.x-index (search rules) in (
      length-set l.met c.in-Some.row _ ∙ l.invariant.0,
      every-passes e _ l.invariant.1 (row_here _ _ col q),
      met-one col c.args.a.now l.met e q (omega arith) c.requires.1 l.invariant.2,
    )

pub returns : goal.returns
returns c =
    let l = c.loop-x in
    let v = c.args in
    let e = column-end v.a.now l.x-index (search rules) in
    let f = every-end e _ l.invariant.1 in
    c.all_true.ensures ∙ met_all v.col.now v.a.now l.met e (omega arith) l.invariant.2 ∙ rw (← f)

pub slice_bounds-all_true-end : goal.slice_bounds-all_true-end
slice_bounds-all_true-end c = sym (length-take-le _ c.loop-x.met (omega arith))
