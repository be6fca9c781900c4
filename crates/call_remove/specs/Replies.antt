-- The reply of the call in this crate, with every field of its result struct.
use Rattle.std.specs.Prelude.{[], ◌∷◌, Result, Ok, Err}
use Rattle.kinds.specs.Answers.{refusal_number}
use Rattle.kinds.specs.declared.refusal.Refusal.{Refusal}
use Rattle.rules.specs.Calls.{Reply}
use Rattle.call_remove.specs.declared.Expired.{Expired}
use Rattle.call_remove.specs.declared.Gone.{Gone}

abbrev pub clock_reply : Expired → Reply
clock_reply r = record { number = r.answer; values = r.exporters ∷ r.objects ∷ r.interfaces ∷ r.sets ∷ []; part = []; buffer = [] }

-- what C gets: a refusal by its number, with zeros
abbrev pub expired : Result Gone Refusal → Expired
expired (Ok x) = record { answer = 0; exporters = 0; objects = x.objects; interfaces = x.interfaces; sets = x.sets }
expired (Err why) = record { answer = refusal_number why; exporters = 0; objects = 0; interfaces = 0; sets = 0 }
