-- `identifiers::bucket`: a remainder is below m.
use mathlib.Core.Path.{ap}
use Prim.Native.Nat.{ℕ, ◌%◌}
use native.Mathlib.Nat.{mod-lt}
use Rattle.identifiers.proofs.bucket.Goals as goal

pub returns : goal.returns
returns c = let m = c.args.m in (ap (λ (n : ℕ). n % m) c.of_word.ensures.0, mod-lt c.of_word.result c.requires)
