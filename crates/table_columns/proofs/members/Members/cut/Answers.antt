-- `table_columns::members::Members::cut`: bit 64 becomes bit 63 where a low bit goes.
use Rattle.std.proofs.Common.{ℕ, ◌+◌, ◌*◌, ◌%◌, ◌^◌, refl, ap, arith}
use Rattle.table_columns.proofs.members.Making.{cut-made-low, cut-made-high, cut-none}
use Rattle.table_columns.proofs.members.Members.cut.Goals as goal

pub returns-then-k-lt64 : goal.returns-then-k-lt64
returns-then-k-lt64 c =
    let g = c.well_formed in
    cut-made-low _ _ _ (omega arith, omega arith) c.if-k-lt64.true (ap (λ (w : ℕ). c.args.self.high % 2 * 2 ^ 63 + w) c.cut_bit.ensures.0) refl

pub returns-then-k-lt128 : goal.returns-then-k-lt128
returns-then-k-lt128 c =
    let g = c.well_formed in
    cut-made-high _ _ _ (omega arith, omega arith) c.if-k-lt64.false c.if-k-lt128.true refl c.cut_bit-then-k-lt128.ensures.0 c.cut_bit-then-k-lt128.ensures.1

pub returns : goal.returns
returns c =
    let g = c.well_formed in
    cut-none _ _ (omega arith, omega arith) c.if-k-lt128.false
