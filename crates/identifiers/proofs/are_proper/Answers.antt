-- `identifiers::are_proper`: the words climb, or an index is made.
use mathlib.Core.Path.{sym, ◌∙◌}
use Rattle.identifiers.proofs.Laws.{climbing-proper}
use Rattle.identifiers.proofs.are_proper.Goals as goal

pub returns-then-climbs : goal.returns-then-climbs
returns-then-climbs c = let v = c.args in sym (climbing-proper v.col.now (sym c.climbs.ensures ∙ c.if-climbs.true))

pub returns : goal.returns
returns c = c.note.ensures.judged
