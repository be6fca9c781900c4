-- The short shift, by computation.
use mathlib.Core.Path.{refl}
use Rattle.kinds.specs.Refusals.{order}
use Rattle.fields.specs.Fields.{bytes_number, encode, field}
use Rattle.bindings.specs.Bindings.{words, through_zero, first_binding, bindings_up_to, bindings_of, joined, same_words, is_part, two_parts, list_length, front_answer, list_answer}
use Rattle.lists.specs.Lists.{keep, some, every, first_or, distinct, tabulate, holding}
use Rattle.rules.specs.Entries.{lists_length}
use Rattle.rules.specs.Rules.{refusals, number, next, results, refused_reply, accepted_reply, reply}
use Rattle.balance.specs.Balance.{total, counts_held, held_by, counting, tally_over}
use Rattle.replay_step.specs.Answers.{answer_to}
use Rattle.replay_rules.specs.Replay.{first_differing}
use Rattle.replay_rules.specs.Cases.{shift, ShiftReplayed}

pub shift-replayed : ShiftReplayed
unfolding shift order bytes_number encode field words through_zero first_binding bindings_up_to bindings_of joined same_words is_part two_parts list_length front_answer list_answer
    keep some every first_or distinct tabulate holding lists_length refusals number next results refused_reply accepted_reply reply total counts_held held_by counting tally_over answer_to first_differing
shift-replayed = record { agrees = refl; differs = refl; tally = refl }
