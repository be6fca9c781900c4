-- `bindings::whole_blocks`: none of the words passed is zero.
use Rattle.bindings.proofs.Parts.{block-more}
use Rattle.bindings.proofs.whole_blocks.Goals as goal

pub loop-k-preserved : goal.loop-k-preserved
loop-k-preserved c = block-more _ _ c.args.w c.loop-k.k c.loop-k.invariant (c.is_text_block.ensures c.if-not-is_text_block.false)
