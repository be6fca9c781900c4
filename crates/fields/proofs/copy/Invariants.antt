use Rattle.std.proofs.Common.{◌≡◌, ◌+◌, ◌≤◌, length, drop}
use Rattle.fields.specs.Fields.{written}
use Rattle.fields.proofs.copy.Given as goal

abbrev pub invariant-loop-k : goal.invariant-loop-k
invariant-loop-k l =
    (length l.buf ≡ length l.initial.buf)
    × (l.at + length l.src ≤ length l.initial.buf)
    × (written l.buf (l.at + l.k) (drop l.k l.src) ≡ written l.initial.buf l.at l.src)
