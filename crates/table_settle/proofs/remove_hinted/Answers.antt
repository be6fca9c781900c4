-- `table_settle::remove_hinted`: the objects go, then the interfaces whose object went, where any did.
use mathlib.Core.Path.{sym, ap, ◌∙◌}
use Rattle.table_view.proofs.LiveRows.{objects-length}
use Rattle.table_settle.specs.Leaving.{interfaces_left}
use Rattle.table_settle.proofs.Staying.{all-stayed}
use Rattle.table_settle.proofs.remove_hinted.Goals as goal

pub returns-then-object_count-n : goal.returns-then-object_count-n
returns-then-object_count-n c s =
    let n = c.object_count-n.ensures.0 in
    all-stayed c.args.why _ _ (c.drop_objects.ensures.0 s)
    (objects-length _ ∙ sym c.object_count.ensures.0 ∙ c.if-object_count-n.true ∙ n ∙ sym (objects-length c.args.words.now))
    (c.requires.3 s)

pub returns : goal.returns
returns c s = c.drop_interfaces.ensures s ∙ ap interfaces_left (c.drop_objects.ensures.0 s)
