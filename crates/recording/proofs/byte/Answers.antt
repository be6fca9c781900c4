-- `recording::byte`: a field of one byte.
use borrow.Author.Rules.{rules}
use mathlib.Core.Path.{sym}
use native.Mathlib.Omega.{arith}
use Rattle.fields.proofs.Fields.{field_out}
use Rattle.recording.proofs.Places.{byte_at}
use Rattle.recording.proofs.byte.Goals as goal

pub returns-then-at-s : goal.returns-then-at-s
returns-then-at-s c = sym (byte_at _ _ (search rules))

pub returns-else-at-s : goal.returns-else-at-s
returns-else-at-s c = sym (field_out _ _ 1 (omega arith))
