-- `recording::whole_records`: of fewer than eight bytes none.
use Rattle.recording.proofs.Passing.{found_none, found_some}
use Rattle.recording.proofs.whole_records.Goals as goal

pub returns-then-s-lt8 : goal.returns-then-s-lt8
returns-then-s-lt8 c = search found_none

pub returns : goal.returns
returns c = search found_some
