-- `recording::pass`: what is whole of the records that are left.
use Rattle.recording.proofs.Passing.{going_start, going-short, going-broken, going_step, going_end, record-at}
use Rattle.recording.proofs.pass.Goals as goal

pub loop-n-init : goal.loop-n-init
loop-n-init c = search going_start

pub returns-then-e-eq0 : goal.returns-then-e-eq0
returns-then-e-eq0 c = search going-short

pub record_fits-requires : goal.record_fits-requires
record_fits-requires c = search record-at

pub returns-then-not-record_fits : goal.returns-then-not-record_fits
returns-then-not-record_fits c = search going-broken

pub loop-n-preserved : goal.loop-n-preserved
loop-n-preserved c = search going_step

pub returns : goal.returns
returns c = search going_end
