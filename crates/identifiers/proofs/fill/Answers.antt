-- `identifiers::fill`: the bucket has no number and gets one, or has one.
use Rattle.identifiers.proofs.Noting.{filled-now, filled-before}
use Rattle.identifiers.proofs.fill.Goals as goal

pub returns-then-rows-k-eq0 : goal.returns-then-rows-k-eq0
returns-then-rows-k-eq0 c = search filled-now

pub returns-else-rows-k-eq0 : goal.returns-else-rows-k-eq0
returns-else-rows-k-eq0 c = search filled-before
