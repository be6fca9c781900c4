-- `table_columns::passed`: each block that is passed stands before the rest.
use Rattle.std.proofs.Common.{◌+◌, ◌∙◌, sym, arith}
use Rattle.table_columns.proofs.Passing.{Passed, passed-first, passed-more, passed-none}
use Rattle.table_columns.proofs.passed.Goals as goal
use Rattle.table_columns.proofs.passed.Goals.{Else-in_block}

-- with the block
more : (c : Else-in_block) → Passed c.args.lows.now c.args.highs.now c.next.new.self.a.rest.now c.next.new.self.b.rest.now (c.loop-low.n + 8) c.args.g
more c =
    let i = c.loop-low.invariant in
    let s = c.in-Some.ensures.steps in
    passed-more _ _ _ _ _ _ _ _ _ 8 _ i.2 s.0.1.0 s.1.1.0 (s.0.1.1 ∙ i.0) (s.1.1.1 ∙ i.1) (sym c.in_block.ensures ∙ c.if-in_block.false)

pub loop-low-init : goal.loop-low-init
loop-low-init c =
    let zip = c.zip-low-items.ensures in
    let low = c.chunks_exact.ensures in
    let high = c.chunks_exact-2.ensures in
    rw (c.into_iter-low-iterator.ensures.into_iter_gives, zip.first, zip.second) (low.size, high.size, passed-first _ _ _ _ _ low.rest high.rest)

pub overflow_add-n : goal.overflow_add-n
overflow_add-n c = omega (arith, (passed-none _ _ _ _ _ _ (more c)).0)

pub loop-low-preserved : goal.loop-low-preserved
loop-low-preserved c =
    let i = c.loop-low.invariant in
    let s = c.in-Some.ensures.steps in
    (s.0.0 ∙ i.0, s.1.0 ∙ i.1, more c)

pub returns-in-None : goal.returns-in-None
returns-in-None c = passed-none _ _ _ _ _ _ c.loop-low.invariant.2

pub returns-then-in_block : goal.returns-then-in_block
returns-then-in_block c = passed-none _ _ _ _ _ _ c.loop-low.invariant.2
