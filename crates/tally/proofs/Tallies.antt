-- The laws of the tally's numbers modulo 2^64.
use Rattle.std.proofs.Common.{◌^◌, mod-eq_of_lt}
use native.Mathlib.Nat.{mod-add-mod}
use Rattle.tally.specs.Tallies.{KeptSmall, RaisedOn}

pub kept_small : KeptSmall
kept_small t a b c i = record { granted = mod-eq_of_lt a i; taken = mod-eq_of_lt b i; rundown = mod-eq_of_lt c i }

pub raised-on : RaisedOn
raised-on t g k d i = record { granted = mod-add-mod t.granted (2 ^ 64) g i; taken = mod-add-mod t.taken (2 ^ 64) k i; rundown = mod-add-mod t.rundown (2 ^ 64) d i }
