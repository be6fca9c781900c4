-- The reply of the call in this crate, with every field of its result struct.
use Rattle.std.specs.Prelude.{[], ◌∷◌, Result, Ok, Err}
use Rattle.kinds.specs.Answers.{refusal_number}
use Rattle.kinds.specs.declared.SetId.{SetId}
use Rattle.kinds.specs.declared.refusal.Refusal.{Refusal}
use Rattle.rules.specs.Calls.{Reply}
use Rattle.call_ping.specs.declared.Pinged.{Pinged}

abbrev pub ping_reply : Pinged → Reply
ping_reply r = record { number = r.answer; values = r.set.0 ∷ r.backoff ∷ []; part = []; buffer = [] }

-- what C gets: the set's number and no backoff, or a refusal by its number, with zeros
abbrev pub pinged : Result SetId Refusal → Pinged
pinged (Ok set) = record { answer = 0; set = set; backoff = 0 }
pinged (Err why) = record { answer = refusal_number why; set = record { 0 = 0 }; backoff = 0 }
