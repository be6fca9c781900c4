-- `extensions::next`: the whole extension lies in the bytes.
use mathlib.Core.Path.{◌≡◌, ap, ◌∙◌}
use native.Mathlib.Omega.{arith}
use Rattle.fields.specs.Fields.{rounded}
use Rattle.extensions.specs.Extensions.{size_at}
use Rattle.extensions.proofs.ArrayWalk.{held}
use Rattle.extensions.proofs.next.Goals as goal
use Rattle.extensions.proofs.next.Goals.{After-rounded}

pub overflow_add-at : goal.overflow_add-at
overflow_add-at c = omega (arith, (held _ _ c.requires).fixed)

-- the size that is read
size : (c : After-rounded) → c.rounded.result ≡ rounded (size_at c.args.s.now c.args.at)
size c = c.rounded.ensures ∙ ap rounded c.read_u32.ensures

pub returns : goal.returns
returns c = omega (arith, size (goal.at.returns c).After-rounded)

pub overflow_add-result : goal.overflow_add-result
overflow_add-result c = omega (arith, (held _ _ c.requires).fixed)

pub overflow_add-result-2 : goal.overflow_add-result-2
overflow_add-result-2 c = omega (arith, size (goal.at.overflow_add-result-2 c).After-rounded, (held _ _ c.requires).room)
