-- `recording::walk`: the records that are left are short, fit and leave behind what all do.
use native.Mathlib.Omega.{arith}
use Rattle.recording.proofs.Walking.{rest-start, rest-step, rest-short, rest_end, record-at}
use Rattle.recording.proofs.walk.Goals as goal

pub returns-then-e-eq0 : goal.returns-then-e-eq0
returns-then-e-eq0 c = rest-short _ _ _ _ _ c.loop.invariant (omega arith) _ c.record_ends-e.ensures c.if-e-eq0.true

pub record_fits-fits-requires : goal.record_fits-fits-requires
record_fits-fits-requires c = record-at _ _ _ _ _ c.loop.invariant _ c.record_ends-e.ensures c.if-e-eq0.false

pub loop-preserved : goal.loop-preserved
loop-preserved c = rest-step _ _ _ _ _ c.loop.invariant (omega arith) _ c.record_ends-e.ensures c.if-e-eq0.false _ c.record_fits-fits.ensures _ (omega arith)

pub loop-init : goal.loop-init
loop-init c = rest-start _ _ c.requires _ (omega arith)

pub returns : goal.returns
returns c = rest_end _ _ _ _ _ c.loop.invariant (omega arith)
