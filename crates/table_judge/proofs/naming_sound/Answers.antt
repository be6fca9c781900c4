-- `table_judge::naming_sound`: two lists of clauses, one after the other.
use Rattle.table_judge.proofs.Clauses.{clauses-fail, clauses-pass}
use Rattle.table_judge.proofs.naming_sound.Goals as goal

pub returns-then-not-exporters_named : goal.returns-then-not-exporters_named
returns-then-not-exporters_named c = λ s. clauses-fail _ _ (c.exporters_named.ensures s) c.if-not-exporters_named.true-raw

pub returns : goal.returns
returns c = λ s. clauses-pass _ _ (c.exporters_named.ensures s) c.if-not-exporters_named.false-raw (c.objects_named.ensures s)
