-- `resolve_filtered`: the table that the step is asked for is sound.
use Rattle.table_view.proofs.Steps.{sound-table}
use Rattle.replay_answers.proofs.resolve_filtered.Goals as goal

pub resolve_filtered_bytes_step-requires : goal.resolve_filtered_bytes_step-requires
resolve_filtered_bytes_step-requires c = search sound-table
