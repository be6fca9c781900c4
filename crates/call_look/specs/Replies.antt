-- The replies of the calls in this crate, with every field of their result structs.
use Rattle.std.specs.Prelude.{ℕ, List, [], ◌∷◌, Result, Ok, Err}
use Rattle.kinds.specs.Answers.{refusal_number}
use Rattle.kinds.specs.declared.refusal.Refusal.{Refusal}
use Rattle.rules.specs.Calls.{Reply}
use Rattle.call_look.specs.declared.resolving.Resolution.{Resolution}
use Rattle.call_look.specs.declared.resolving.Resolved.{Resolved}
use Rattle.call_look.specs.declared.numbers.Live.{Live}
use Rattle.call_look.specs.declared.numbers.LiveCounts.{LiveCounts}
use Rattle.call_look.specs.declared.numbers.MemberCount.{MemberCount}

abbrev pub census_reply : LiveCounts → Reply
census_reply r = record { number = r.answer; values = r.exporters ∷ r.objects ∷ r.interfaces ∷ r.sets ∷ []; part = []; buffer = [] }

abbrev pub members_reply : MemberCount → Reply
members_reply r = record { number = r.answer; values = r.count ∷ []; part = []; buffer = [] }

-- the buffer as it is left
abbrev pub resolve_reply : Resolved → List ℕ → Reply
resolve_reply r buffer = record { number = r.answer; values = r.length ∷ r.unknown.low ∷ r.unknown.high ∷ []; part = []; buffer = buffer }

-- what C gets of each: a refusal by its number, with zeros
abbrev pub live_counts : Result Live Refusal → LiveCounts
live_counts (Ok x) = record { answer = 0; exporters = x.exporters; objects = x.objects; interfaces = x.interfaces; sets = x.sets }
live_counts (Err why) = record { answer = refusal_number why; exporters = 0; objects = 0; interfaces = 0; sets = 0 }

abbrev pub member_count : Result ℕ Refusal → MemberCount
member_count (Ok n) = record { answer = 0; count = n }
member_count (Err why) = record { answer = refusal_number why; count = 0 }

abbrev pub resolved : Result Resolution Refusal → Resolved
resolved (Ok x) = record { answer = 0; length = x.length; unknown = x.unknown }
resolved (Err why) = record { answer = refusal_number why; length = 0; unknown = record { low = 0; high = 0 } }
