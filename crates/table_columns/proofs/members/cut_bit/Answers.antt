-- `table_columns::members::cut_bit`: the unit is 2 ^ k, and the sum is below 2 ^ 63.
use Rattle.std.proofs.Common.{◌^◌, ◌<◌, refl, arith, pow_pos}
use Rattle.table_columns.specs.Members.{cut_bit}
use Rattle.table_columns.proofs.members.WordBits.{unit, cut-lt}
use Rattle.table_columns.proofs.members.cut_bit.Goals as goal

-- the sum is below 2 ^ 63
small : (c : goal.Start) → cut_bit c.args.w c.args.k < 2 ^ 63
small c = cut-lt c.args.w c.args.k c.ranges.w.fits c.requires

pub overflow_mul-result : goal.overflow_mul-result
unfolding cut_bit
overflow_mul-result c = rw (unit c.args.k c.requires) (record { fits = omega (arith, small c) })

pub nonzero_rem-result : goal.nonzero_rem-result
nonzero_rem-result c = rw (unit c.args.k c.requires) (pow_pos c.args.k)

pub overflow_add-result : goal.overflow_add-result
unfolding cut_bit
overflow_add-result c = rw (unit c.args.k c.requires) (record { fits = omega (arith, small c) })

pub returns : goal.returns
unfolding cut_bit
returns c = rw (unit c.args.k c.requires) (refl, small c)
