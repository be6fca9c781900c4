-- `identifiers::climbs`: the words from the index on climb from the last one where all do from 0.
use mathlib.Core.Path.{refl}
use borrow.Author.Rules.{rules}
use Rattle.table_columns.proofs.Loops.{column-step, column-end}
use Rattle.identifiers.proofs.Laws.{climbs-on, climbs-not, climbs-end}
use Rattle.identifiers.proofs.climbs.Goals as goal

pub loop-x-init : goal.loop-x-init
loop-x-init c = refl

pub returns-then-x-last : goal.returns-then-x-last
returns-then-x-last c = let l = c.loop-x in climbs-not l.invariant (column-step _ 0 l.x-index (search rules)) c.if-x-last.true

pub loop-x-preserved : goal.loop-x-preserved
loop-x-preserved c = let l = c.loop-x in climbs-on l.invariant (column-step _ 0 l.x-index (search rules)) c.if-x-last.false

pub returns : goal.returns
returns c = let l = c.loop-x in climbs-end l.last l.invariant (column-end _ l.x-index (search rules))
