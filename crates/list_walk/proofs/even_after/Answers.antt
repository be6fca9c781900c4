-- `list_walk::even_after`: the words that are there and belong to the list.
use mathlib.Core.Path.{sym}
use native.Mathlib.Omega.{arith}
use Rattle.list_walk.proofs.TextBlocks.{walk-done}
use Rattle.list_walk.proofs.even_after.Goals as goal

pub returns-then-n-k : goal.returns-then-n-k
returns-then-n-k c = sym (walk-done _ _ _ _ _ _ (omega arith))

pub returns : goal.returns
returns c = cc

pub walk_words-requires : goal.walk_words-requires
walk_words-requires c = (omega arith, omega arith)
