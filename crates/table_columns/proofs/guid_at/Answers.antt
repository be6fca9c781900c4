-- `table_columns::guid_at`: each half is the word at i of its column.
use Rattle.table_columns.proofs.guid_at.Goals as goal

pub returns : goal.returns
returns c = λ u. record { low = c.word_at.ensures u; high = c.word_at-2.ensures u }
