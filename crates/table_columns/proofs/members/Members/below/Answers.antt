-- `table_columns::members::Members::below`: a word shifted down by n is 0 where it has no bit at n or above.
use Rattle.std.proofs.Common.{◌∙◌, arith, le-leb, ne_eqb}
use Rattle.table_columns.proofs.members.Bits.{below-past}
use Rattle.table_columns.proofs.members.Making.{below_left, below-low, below-high}
use Rattle.table_columns.proofs.members.Members.below.Goals as goal

pub returns-then-self-eq0 : goal.returns-then-self-eq0
returns-then-self-eq0 c = let g = c.well_formed in below-low _ _ (omega arith, omega arith) c.if-n-lt64.true c.if-self-eq0.true

pub returns-else-self-eq0 : goal.returns-else-self-eq0
returns-else-self-eq0 c = let g = c.well_formed in ne_eqb _ _ c.if-self-eq0.false ∙ below_left _ _ (omega arith, omega arith) c.if-n-lt64.true c.if-self-eq0.false

pub returns-then-n-ge128 : goal.returns-then-n-ge128
returns-then-n-ge128 c = le-leb _ _ c.if-n-ge128.true ∙ below-past _ _ c.if-n-ge128.true

pub returns-else-n-ge128 : goal.returns-else-n-ge128
returns-else-n-ge128 c = let g = c.well_formed in below-high _ _ (omega arith, omega arith) c.if-n-lt64.false c.if-n-ge128.false
