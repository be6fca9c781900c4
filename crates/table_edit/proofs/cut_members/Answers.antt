-- `table_edit::cut_members`: bit i is taken out of the members at the rows below r, and the others are as they were.
use native.Mathlib.Omega.{arith}
use mathlib.Core.Logic.{inl}
use lib.ListN.{length-set}
use Rattle.table_edit.proofs.Cuts.{cut-none, cut-one, cut_all}
use Rattle.table_edit.proofs.cut_members.Goals as goal

pub members-requires : goal.members-requires
members-requires c =
    let l = c.loop-r in
    let s = l.invariant.size in
    let q = l.invariant.others 5 (inl (omega arith)) in
    let e = c.set_count-n.ensures.0 in
    (omega arith, omega arith)

pub loop-r-preserved : goal.loop-r-preserved
loop-r-preserved c =
    let l = c.loop-r in
    let s = l.invariant.size in
    cut-one l.words l.r c.cut-left.result (omega arith) (omega arith) c.args.i _ l.invariant (rw c.members.ensures at c.cut-left.ensures)

pub returns : goal.returns
returns c =
    let l = c.loop-r in
    cut_all _ _ _ l.r (omega arith) l.invariant

pub loop-r-init : goal.loop-r-init
loop-r-init c = cut-none _ _

pub bounds-words-r : goal.bounds-words-r
bounds-words-r c = let s = c.loop-r.invariant.size in omega arith

pub bounds-words-r-in-loop-r : goal.bounds-words-r-in-loop-r
bounds-words-r-in-loop-r c = let s = c.loop-r.invariant.size in rw length-set (omega arith)

pub shape_of-words : goal.shape_of-words
shape_of-words c = c.loop-r.invariant.size
