-- `complex_ping`: the table that the step is asked for is sound.
use Rattle.table_view.proofs.Steps.{sound-table}
use Rattle.replay_answers.proofs.complex_ping.Goals as goal

pub complex_ping_bytes_step-requires : goal.complex_ping_bytes_step-requires
complex_ping_bytes_step-requires c = search sound-table
