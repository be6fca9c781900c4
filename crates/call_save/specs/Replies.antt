-- The reply of writing a snapshot, with every field of its result.
use Rattle.std.specs.Prelude.{ℕ, List, [], ◌∷◌}
use Rattle.fields.specs.declared.Written.{Written}
use Rattle.rules.specs.Calls.{Reply}

-- the buffer as it is left
abbrev pub written_reply : Written → List ℕ → Reply
written_reply r buffer = record { number = r.answer; values = r.length ∷ []; part = []; buffer = buffer }
