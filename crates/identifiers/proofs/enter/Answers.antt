-- `identifiers::enter`: the first bucket is taken, or gets the number; then the second, where the number may lead elsewhere.
use mathlib.Core.Path.{◌∙◌}
use lib.ListN.{length-set}
use Rattle.identifiers.proofs.Noting.{put_second, put_first, put_both}
use Rattle.identifiers.proofs.enter.Goals as goal

pub returns-then-rows-b-ne0 : goal.returns-then-rows-b-ne0
returns-then-rows-b-ne0 c = search put_second

pub returns-then-number-lt255 : goal.returns-then-number-lt255
returns-then-number-lt255 c = search put_first

pub shape_of-rows : goal.shape_of-rows
shape_of-rows c = c.fill-2.ensures.size ∙ simp length-set

pub returns : goal.returns
returns c = search put_both
