-- `table_edit::remove_object`: a row of the objects is taken out, and its bit out of the members.
use Prim.Native.Nat.{◌<◌}
use native.Mathlib.Omega.{arith}
use Rattle.table_words.specs.Kinds.{object_kind}
use Rattle.table_edit.specs.Edits.{Pulled}
use Rattle.table_edit.proofs.ObjectMembers.{object-pulled, pulled-below}
use borrow.Author.Rules.{rules}
use Rattle.table_edit.proofs.remove_object.Goals as goal

pub returns : goal.returns
returns c =
    let ws = c.args.words.now in
    let n = c.object_count-n.result in
    let i = c.args.i in
    let e = c.object_count-n.ensures.0 in
    let h : i < n = omega arith in
    let p : Pulled object_kind 3 n i ws _ = rw c.object_kind.ensures at c.pull_row.ensures in
    let k = c.cut_members.ensures in
    (object-pulled ws _ _ n i e h p k c.requires.2 c.requires.3, pulled-below ws _ _ n i e h p k c.requires.2)

pub pull_row-requires : goal.pull_row-requires
pull_row-requires c = rw c.object_kind.ensures (search rules)
