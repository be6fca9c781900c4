-- `find::list_start`: after j rounds, the start of list j.
use Prim.Native.Nat.{suc, ◌+◌, ◌≤◌}
use mathlib.Core.Path.{◌≡◌, sym, ap, ◌∙◌}
use native.Mathlib.Omega.{arith}
use native.Mathlib.Numerals.{add-one}
use borrow.Author.Rules.{rules, part_to_end}
use lib.ListN.{length}
use Rattle.bindings.specs.Bindings.{list_length}
use Rattle.table_view.specs.View.{list_start}
use Rattle.table_view.proofs.StoredLists.{start_first, list-next}
use Rattle.table_view.proofs.find.list_start.Goals as goal
use Rattle.table_view.proofs.find.list_start.Goals.{After-stated_length-at}

next : (c : After-stated_length-at) → let at = c.loop-j.at + c.stated_length-at.result in let s = c.args.store.now in
    (at ≡ list_start s (suc c.loop-j._j)) × (at ≤ length s)
next c =
    let s = c.args.store.now in
    let l = c.loop-j in
    list-next s c.args.i l._j l.at _ (omega arith) c.requires.1 l.invariant.0 (c.stated_length-at.ensures ∙ ap list_length (part_to_end s l.at))

pub loop-j-init : goal.loop-j-init
loop-j-init c = (sym (start_first _), search rules)

pub overflow_add-at : goal.overflow_add-at
overflow_add-at c = let n = next c in omega arith

pub loop-j-preserved : goal.loop-j-preserved
loop-j-preserved c = rw (add-one c.loop-j._j) (next c)
