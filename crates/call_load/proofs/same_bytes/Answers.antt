-- `call_load::same_bytes`: equality at slices is equality at each place.
use mathlib.Core.Path.{◌∙◌}
use Rattle.call_load.proofs.Loading.{by-places}
use Rattle.call_load.proofs.same_bytes.Goals as goal

pub returns : goal.returns
returns c = c.eq.ensures ∙ by-places _ _
