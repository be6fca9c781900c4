use Rattle.std.proofs.Common.{◌≡◌, length}
use Rattle.call_ping.proofs.Hearing.{HearLoop}
use Rattle.call_ping.proofs.hear.Given as goal

abbrev pub invariant-loop-i : goal.invariant-loop-i
invariant-loop-i l = (length l.words ≡ 8192) × HearLoop l.initial.words l.members l.words l.i

abbrev pub decreases-loop-i : goal.decreases-loop-i
decreases-loop-i l = l.i
