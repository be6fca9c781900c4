-- The running tally: its three numbers raised, and as 64 bits hold them.
use Rattle.std.specs.Prelude.{◌≡◌, ℕ, ◌+◌, ◌%◌, ◌^◌, ◌<◌}
use Rattle.tally.specs.declared.Tally.{Tally}

abbrev pub raised : Tally → ℕ → ℕ → ℕ → Tally
raised t g k d = record { granted = t.granted + g; taken = t.taken + k; rundown = t.rundown + d }

abbrev pub wrapped : Tally → Tally
wrapped t = record { granted = t.granted % 2 ^ 64; taken = t.taken % 2 ^ 64; rundown = t.rundown % 2 ^ 64 }

-- the numbers below 2^64 are kept as they are
abbrev pub KeptSmall : Type 0
KeptSmall = (t : Tally) → t.granted < 2 ^ 64 → t.taken < 2 ^ 64 → t.rundown < 2 ^ 64 → wrapped t ≡ t

-- raised one after the other, they are the sums as 64 bits hold them: only the last sums need be below 2^64
abbrev pub RaisedOn : Type 0
RaisedOn = (t : Tally) (g k d : ℕ) → wrapped (raised (wrapped t) g k d) ≡ wrapped (raised t g k d)
