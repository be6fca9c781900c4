-- `table_columns::buckets::of_word`: each product is below 2 ^ 62, so nothing wraps.
use Rattle.std.proofs.Common.{rules}
use Rattle.table_columns.specs.Buckets.{word_bucket}
use Rattle.table_columns.proofs.buckets.of_word.Goals as goal

pub returns : goal.returns
unfolding word_bucket
returns c = (search rules, search rules)
