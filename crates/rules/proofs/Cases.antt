-- The cases of the documents' edges, by computation.
use mathlib.Core.Path.{refl}
use Rattle.kinds.specs.Refusals.{order}
use Rattle.fields.specs.Fields.{bytes_number, encode, field, all_zero}
use Rattle.bindings.specs.Bindings.{words, through_zero, first_binding, bindings_up_to, bindings_of, joined, same_words, is_part, two_parts, list_length, front_answer, list_answer}
use Rattle.contexts.specs.Contexts.{property_answer, properties_answer, extents_answer, head_answer as context_head, context_answer}
use Rattle.elements.specs.Elements.{element_front, element_end, element_answer}
use Rattle.references.specs.References.{fixed_size, object_answer, head_answer, plain_answer, extended_front, extended_answer, form_answer, layout_by, layout_answer, names_nil, reference_answer}
use Rattle.lists.specs.Lists.{keep, some, every, first_or, distinct, tabulate, holding}
use Rattle.lists.specs.Order.{insert, rising, bytes_before}
use Rattle.rules.specs.Entries.{lists_length}
use Rattle.rules.specs.Sound.{sound}
use Rattle.rules.specs.Snapshot.{sorted, in_row, exporter_bytes, object_bytes, interface_bytes, set_bytes, sections, read_row}
use Rattle.rules.specs.Snapshot.{read_number, read_exporter, read_object, read_interface, read_set, entries_of, placed, is_snapshot}
use Rattle.rules.specs.Rules.{refusals, number, next, results, refused_reply, accepted_reply, reply}
use Rattle.rules.specs.Cases.{outcome, empty_list, signed, one_set, one_of_each, fresh_snapshot, two_interfaces, cases, CasesHold}

pub cases-hold : CasesHold
unfolding outcome cases empty_list signed one_set one_of_each fresh_snapshot two_interfaces order bytes_number encode field words through_zero first_binding bindings_up_to bindings_of joined same_words
    is_part two_parts list_length front_answer list_answer property_answer properties_answer extents_answer context_head context_answer all_zero element_front element_end element_answer fixed_size
    object_answer head_answer plain_answer extended_front extended_answer form_answer layout_by layout_answer names_nil reference_answer keep some every first_or distinct tabulate holding insert rising
    bytes_before lists_length sound sorted in_row exporter_bytes object_bytes interface_bytes set_bytes sections read_row read_number read_exporter read_object read_interface read_set entries_of placed
    is_snapshot refusals number next results refused_reply accepted_reply reply
cases-hold = refl
