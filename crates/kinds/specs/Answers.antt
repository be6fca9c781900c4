-- The numbers that are answered (document 01, "Answer numbers").
use Rattle.std.specs.Prelude.{ℕ, Result, Ok, Err}
use Rattle.kinds.specs.declared.refusal.Refusal.{Refusal}
use Rattle.kinds.specs.declared.refusal.Refusal.TheVariants.{Unsound, ClockBack, BadIdentifier, NoExporter, NoObject, NoInterface, NoReferences, CountOverflow, NoPlace, TooMany, NoSet, Stale}
use Rattle.kinds.specs.declared.refusal.Refusal.TheVariants.{Short, Layout, NoRoom, Version, SetsUsedUp, LongList, NoClient, TooDeep, NilIdentifier, NoSnapshot, NoBinding}

abbrev pub refusal_number : Refusal → ℕ
refusal_number Unsound = 1
refusal_number ClockBack = 2
refusal_number BadIdentifier = 3
refusal_number NoExporter = 4
refusal_number NoObject = 5
refusal_number NoInterface = 6
refusal_number NoReferences = 7
refusal_number CountOverflow = 8
refusal_number NoPlace = 9
refusal_number TooMany = 10
refusal_number NoSet = 11
refusal_number Stale = 12
refusal_number Short = 13
refusal_number Layout = 14
refusal_number NoRoom = 15
refusal_number Version = 16
refusal_number SetsUsedUp = 18
refusal_number LongList = 19
refusal_number NoClient = 20
refusal_number TooDeep = 21
refusal_number NilIdentifier = 22
refusal_number NoSnapshot = 23
refusal_number NoBinding = 24

-- 0 where the call is done
abbrev pub answer_number : {A : Type 0} → Result A Refusal → ℕ
answer_number (Ok _) = 0
answer_number (Err why) = refusal_number why
