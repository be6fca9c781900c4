-- `replay_tally::side`: by code.
use mathlib.Core.Path.{ap}
use Rattle.replay_tally.specs.Sums.{side_as}
use Rattle.replay_tally.proofs.Wrapping.{side-else}
use Rattle.replay_tally.proofs.side.Goals as goal

pub returns-then-code-eq6 : goal.returns-then-code-eq6
unfolding side_as
returns-then-code-eq6 c = ap side_as c.if-code-eq6.true

pub returns-then-code-eq9 : goal.returns-then-code-eq9
unfolding side_as
returns-then-code-eq9 c = ap side_as c.if-code-eq9.true

pub returns-then-code-eq2 : goal.returns-then-code-eq2
unfolding side_as
returns-then-code-eq2 c = ap side_as c.if-code-eq2.true

pub returns-then-code-eq7 : goal.returns-then-code-eq7
unfolding side_as
returns-then-code-eq7 c = ap side_as c.if-code-eq7.true

pub returns-then-code-eq12 : goal.returns-then-code-eq12
unfolding side_as
returns-then-code-eq12 c = ap side_as c.if-code-eq12.true

pub returns-then-code-eq0 : goal.returns-then-code-eq0
unfolding side_as
returns-then-code-eq0 c = ap side_as c.if-code-eq0.true

pub returns-then-code-eq19 : goal.returns-then-code-eq19
unfolding side_as
returns-then-code-eq19 c = ap side_as c.if-code-eq19.true

pub returns : goal.returns
returns c =
    side-else _
    c.if-code-eq6.false
    c.if-code-eq9.false
    c.if-code-eq2.false
    c.if-code-eq7.false
    c.if-code-eq12.false
    c.if-code-eq0.false
    c.if-code-eq19.false
