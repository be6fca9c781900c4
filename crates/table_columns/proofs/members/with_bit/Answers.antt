-- `table_columns::members::with_bit`: the unit is 2 ^ k, and the sum is below 2 ^ 64.
use Rattle.std.proofs.Common.{◌^◌, ◌<◌, arith, pow_pos}
use lib.Pow.{shr_le}
use Rattle.table_columns.specs.Members.{put_bit}
use Rattle.table_columns.proofs.members.WordBits.{unit, put-lt}
use Rattle.table_columns.proofs.members.with_bit.Goals as goal

-- the sum is below 2 ^ 64
small : (c : goal.Start) → put_bit c.args.w c.args.k c.args.b < 2 ^ 64
small c = put-lt c.args.w c.args.k c.args.b c.requires.1 c.ranges.w.fits c.requires.0

pub overflow_mul-result-2 : goal.overflow_mul-result-2
unfolding put_bit
overflow_mul-result-2 c = rw (unit c.args.k c.requires.0) (record { fits = omega (arith, small c) })

pub overflow_add-result-2 : goal.overflow_add-result-2
unfolding put_bit
overflow_add-result-2 c = rw (unit c.args.k c.requires.0) (record { fits = small c })

pub returns : goal.returns
unfolding put_bit
returns c = rw (unit c.args.k c.requires.0)

pub overflow_mul-result : goal.overflow_mul-result
overflow_mul-result c = record { fits = omega (arith, shr_le c.args.w c.args.k) }

pub overflow_add-result : goal.overflow_add-result
overflow_add-result c = record { fits = omega (arith, shr_le c.args.w c.args.k) }

pub nonzero_rem-result : goal.nonzero_rem-result
nonzero_rem-result c = rw (unit c.args.k c.requires.0) (pow_pos c.args.k)
