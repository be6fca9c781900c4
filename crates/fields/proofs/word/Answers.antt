-- `fields::word`: the two bytes, decoded.
use mathlib.Core.Path.{◌∙◌}
use Rattle.fields.proofs.Fields.{word-field}
use Rattle.fields.proofs.word.Goals as goal

pub returns : goal.returns
returns c = let a = c.args in c.from_le_bytes.ensures ∙ word-field a.s.now a.at c.requires
