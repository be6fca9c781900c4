-- `list_walk::text_run`: the words passed leave the walk in the text where it stood.
use native.Mathlib.Omega.{arith}
use Rattle.list_walk.proofs.TextBlocks.{passed-text}
use Rattle.list_walk.proofs.text_run.Goals as goal

pub returns : goal.returns
returns c =
    let part = c.part_words.ensures in
    let b = c.block_words.ensures in
    passed-text _ _ _ _ _ _ _ (omega arith) (omega arith) b.1 (λ j l. part.1 j (omega arith))
