-- `replay_tally::sum_after`: as the sum before tells, or summed.
use mathlib.Core.Path.{sym, ap, ◌∙◌}
use mathlib.Core.List.{[]}
use native.Mathlib.Omega.{arith}
use Rattle.replay_tally.specs.Sums.{side_from}
use Rattle.replay_tally.proofs.sum_after.Goals as goal

pub returns-then-not-accepted : goal.returns-then-not-accepted
returns-then-not-accepted c = sym (c.requires.1.refused c.if-not-accepted.true)

pub taken_sum-requires : goal.taken_sum-requires
taken_sum-requires c =
    let p = c.requires in
    (p.0, λ k a. p.1.released c.if-not-accepted.false a k)

pub granted_sum-requires : goal.granted_sum-requires
granted_sum-requires c =
    let tells = c.requires.1 in
    let is = tells.told c.if-not-accepted.false (c.side.ensures ∙ ap side_from c.if-side-ne0.false) c.if-code-eq8.false in
    let h = tells.small in
    omega arith

pub returns : goal.returns
returns c =
    c.granted_sum.ensures
    ∙ sym
    (c.requires.1.told c.if-not-accepted.false
    (c.side.ensures ∙ ap side_from c.if-side-ne0.false) c.if-code-eq8.false)

pub returns-then-code-eq8 : goal.returns-then-code-eq8
returns-then-code-eq8 c = c.held.ensures.0 []
