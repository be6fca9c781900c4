-- `find::count`: a word of the interface's row.
use mathlib.Core.Path.{sym}
use Rattle.table_view.proofs.Counts.{count_word}
use Rattle.table_view.proofs.find.count.Goals as goal

pub returns : goal.returns
returns c =
    sym (count_word c.args.words.now c.args.i c.args.k c.requires.1 c.requires.2)
