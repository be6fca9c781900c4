-- `find::list`: the list begins where those before it end, and is as long as its N says.
use Prim.Native.Nat.{suc, ◌+◌, ◌-◌, ◌≤◌}
use mathlib.Core.Path.{◌≡◌, ap, ◌∙◌}
use native.Mathlib.Omega.{arith}
use borrow.Author.Rules.{rules, part_to_end}
use lib.ListN.{length, drop}
use Rattle.bindings.specs.Bindings.{list_length}
use Rattle.rules.specs.Rules.{no_exporter}
use Rattle.table_view.specs.View.{list_start, list_from}
use Rattle.table_view.proofs.LiveRows.{exporter-at}
use Rattle.table_view.proofs.StoredLists.{list-next}
use Rattle.table_view.proofs.KeptLists.{list-starts, list-ends}
use Rattle.table_view.proofs.find.list.Goals as goal
use Rattle.table_view.proofs.find.list.Goals.{After-list_start-from, After-stated_length}

within : (c : After-list_start-from) → c.list_start-from.result ≤ length c.args.store.now
within c =
    let h = list-starts c.args.words.now c.args.store.now c.requires.2 c.args.i (search rules) in
    let e = c.list_start-from.ensures in
    omega arith

next : (c : After-stated_length) → let to = c.list_start-from.result + c.stated_length.result in let s = c.args.store.now in
    (to ≡ list_start s (suc c.args.i)) × (to ≤ length s)
next c =
    let s = c.args.store.now in
    let from = c.list_start-from.result in
    list-next s (suc c.args.i) c.args.i from _ (omega arith) (list-ends c.args.words.now s c.requires.2 c.args.i c.requires.1)
    c.list_start-from.ensures (c.stated_length.ensures ∙ ap list_length (part_to_end s from))

pub list_start-from-requires : goal.list_start-from-requires
list_start-from-requires c = (search rules, list-starts c.args.words.now c.args.store.now c.requires.2 c.args.i (search rules))

pub slice_bounds-stated_length-count : goal.slice_bounds-stated_length-count
slice_bounds-stated_length-count = within

pub slice_bounds-stated_length-start : goal.slice_bounds-stated_length-start
slice_bounds-stated_length-start c = let h = within c in omega arith

pub overflow_add-to : goal.overflow_add-to
overflow_add-to c = let n = next c in omega arith

pub slice_bounds-result-end : goal.slice_bounds-result-end
slice_bounds-result-end c = let n = next c in omega arith

pub returns : goal.returns
returns c =
    let s = c.args.store.now in
    let from = c.list_start-from.result in
    let size : from + c.stated_length.result - from ≡ list_length (list_from s c.args.i) =
    let e = c.stated_length.ensures ∙ ap list_length (part_to_end s from) ∙ ap (λ k. list_length (drop k s)) c.list_start-from.ensures in omega arith in
    rw (size, exporter-at c.args.words.now s c.args.i no_exporter c.requires.1, c.list_start-from.ensures)
