-- `bindings::block_words`: the first words, and those behind them.
use native.Mathlib.Omega.{arith}
use Rattle.bindings.proofs.Parts.{no-zero-more}
use Rattle.bindings.proofs.block_words.Goals as goal

pub returns : goal.returns
returns c = no-zero-more _ _ _ _ _ (omega arith, c.whole_blocks-i.ensures.1) c.far_words.ensures
