-- `table_columns::members::Members::put`: the bit is put in the word that has row j.
use Rattle.std.proofs.Common.{refl, arith}
use Rattle.table_columns.proofs.members.Making.{bit-of-test, put_low, put-high, put-none}
use Rattle.table_columns.proofs.members.Members.put.Goals as goal

pub returns-then-j-lt64 : goal.returns-then-j-lt64
returns-then-j-lt64 c =
    let g = c.well_formed in
    put_low _ _ _ (bit-of-test _ c.from-b.ensures) _ _ (omega arith, omega arith) c.if-j-lt64.true c.with_bit.ensures refl

pub returns-then-j-lt128 : goal.returns-then-j-lt128
returns-then-j-lt128 c =
    let g = c.well_formed in
    put-high _ _ _ (bit-of-test _ c.from-b.ensures) _ _ (omega arith, omega arith) c.if-j-lt64.false c.if-j-lt128.true refl c.with_bit-then-j-lt128.ensures

pub returns : goal.returns
returns c =
    let g = c.well_formed in
    put-none _ _ _ (omega arith, omega arith) c.if-j-lt128.false
