-- `bindings::far_words`: the words in large blocks, and those in small ones behind them.
use Rattle.bindings.proofs.Parts.{no-zero-more}
use Rattle.bindings.proofs.far_words.Goals as goal

pub returns : goal.returns
returns c = no-zero-more _ _ _ _ _ c.whole_blocks-i.ensures c.whole_blocks.ensures
