-- `Fragments::push_first`: after each round the bytes that are left, pushed on, give what all of them give.
use mathlib.Core.Path.{refl}
use native.Mathlib.Omega.{arith}
use Rattle.fragments.proofs.Before.{left-room, left-quiet, left-last}
use borrow.Author.Rules.{rules}
use Rattle.fragments.proofs.Fragments.push_first.Goals as goal

pub loop-init : goal.loop-init
loop-init c = record { within = omega arith; size = search rules; same = refl }

pub push_quiet-state-requires : goal.push_quiet-state-requires
push_quiet-state-requires c =
    let q = c.quiet-m.ensures in
    let l = c.loop in
    left-room _ _ _ _ l.invariant _ q

pub loop-preserved : goal.loop-preserved
loop-preserved c =
    let l = c.loop in
    left-quiet _ _ _ _ l.invariant _ c.quiet-m.ensures _ (search rules) c.push_quiet-state.ensures

pub returns : goal.returns
returns c = left-last _ _ _ _ (search rules) _ _ c.push_tail.ensures
