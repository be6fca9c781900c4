-- `table_columns::members::Members::has`: a row below 64 is a bit of the low word, one below 128 of the high word.
use Rattle.std.proofs.Common.{sym, ◌∙◌, le-ltb}
use Rattle.table_columns.proofs.members.Bits.{member-low, member-high, member-past}
use Rattle.table_columns.proofs.members.Members.has.Goals as goal

pub returns-then-j-lt64 : goal.returns-then-j-lt64
returns-then-j-lt64 c = c.has_bit.ensures ∙ sym (member-low _ _ c.if-j-lt64.true)

pub returns-then-j-lt128 : goal.returns-then-j-lt128
returns-then-j-lt128 c = c.has_bit-then-j-lt128.ensures ∙ sym (member-high _ _ c.if-j-lt64.false c.if-j-lt128.true)

pub returns-else-j-lt128 : goal.returns-else-j-lt128
returns-else-j-lt128 c = le-ltb _ _ c.if-j-lt128.false ∙ sym (member-past _ _ c.if-j-lt128.false)
