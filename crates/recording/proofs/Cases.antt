-- The sample of docs/RECORDING.md, by computation.
use mathlib.Core.Path.{refl}
use Rattle.kinds.specs.Refusals.{order}
use Rattle.fields.specs.Fields.{bytes_number, encode, field}
use Rattle.bindings.specs.Bindings.{joined}
use Rattle.lists.specs.Lists.{every, tabulate, holding}
use Rattle.rules.specs.Snapshot.{in_row}
use Rattle.recording.specs.Recording.{section, sections_bytes, call_bytes, first_list, second_list, recording_bytes, forms, form_of, behind_sections, sections_at}
use Rattle.recording.specs.Recording.{records_in, behind_records, call_of, answer_of, short_sections, short_records, is_short, form_fits, is_broken, recording_answer}
use Rattle.recording.specs.Cases.{sample, sample_bytes, SampleTold}

pub sample-told : SampleTold
unfolding sample sample_bytes order bytes_number encode field joined every tabulate holding in_row section sections_bytes call_bytes first_list second_list recording_bytes forms form_of
    behind_sections sections_at records_in behind_records call_of answer_of short_sections short_records is_short form_fits is_broken recording_answer
sample-told = record { written = refl; read = refl; accepted = refl }
