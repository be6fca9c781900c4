-- `filter::is_requested`: the library's search.
use mathlib.Core.Path.{◌∙◌}
use Rattle.bindings.proofs.FilterLoops.{any-among}
use Rattle.bindings.proofs.filter.is_requested.Goals as goal

pub returns : goal.returns
returns c = c.contains.ensures.value ∙ any-among c.args.protocols.now c.args.tower
