-- `identifiers::second_bucket`: a remainder is below m.
use mathlib.Core.Path.{refl}
use native.Mathlib.Nat.{mod-lt}
use Rattle.identifiers.proofs.second_bucket.Goals as goal

pub returns : goal.returns
returns c = (refl, mod-lt c.args.x c.requires)
