-- What a writer answers.
use Rattle.std.specs.Prelude.{ℕ, Result, Ok, Err}
use Rattle.kinds.specs.Answers.{refusal_number}
use Rattle.kinds.specs.declared.refusal.Refusal.{Refusal}
use Rattle.fields.specs.declared.Written.{Written}

-- the number of bytes written, or a refusal, as C takes it
abbrev pub wrote : Result ℕ Refusal → Written
wrote (Ok n) = record { answer = 0; length = n }
wrote (Err why) = record { answer = refusal_number why; length = 0 }
