-- `Words`: what is gathered lies within the piece.
use Rattle.std.proofs.Common.{◌≤◌}
use Rattle.print.specs.declared.words.TheConstants.{PIECE}
use Rattle.print.proofs.words.WordsDisplay.fmt.Given as goal

abbrev pub invariant-loop-word : goal.invariant-loop-word
invariant-loop-word g l =
    (goal.iterator-loop-word g).can_next l.word-iterator ×
    (goal.iterator-loop-word g).is_finite l.word-iterator ×
    (l.length ≤ PIECE)
