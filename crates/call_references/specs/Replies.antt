-- The reply of the call in this crate, with every field of its result struct.
use Rattle.std.specs.Prelude.{[], ◌∷◌, Result, Ok, Err}
use Rattle.kinds.specs.Answers.{refusal_number}
use Rattle.kinds.specs.declared.refusal.Refusal.{Refusal}
use Rattle.rules.specs.Calls.{Reply}
use Rattle.call_references.specs.declared.Released.{Released}
use Rattle.call_references.specs.declared.Taken.{Taken}

abbrev pub release_reply : Released → Reply
release_reply r = record { number = r.answer; values = r.public ∷ r.private ∷ r.interfaces ∷ r.objects ∷ []; part = []; buffer = [] }

-- what C gets: a refusal by its number, with zeros
abbrev pub released : Result Taken Refusal → Released
released (Ok x) = record { answer = 0; public = x.public; private = x.private; interfaces = x.interfaces; objects = x.objects }
released (Err why) = record { answer = refusal_number why; public = 0; private = 0; interfaces = 0; objects = 0 }
