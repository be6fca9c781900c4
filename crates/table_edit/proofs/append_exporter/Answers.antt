-- `table_edit::append_exporter`: the list goes behind the live ones, and a row of the exporters is entered.
use native.Mathlib.Omega.{arith}
use Prim.Native.Nat.{◌+◌, ◌≤◌}
use lib.ListN.{length}
use Rattle.table_view.specs.View.{list_start}
use Rattle.table_view.proofs.StoredLists.{placed, placed-list, placed-others}
use Rattle.table_edit.proofs.ExporterLists.{exporter-pushed}
use borrow.Author.Rules.{rules}
use Rattle.table_edit.proofs.append_exporter.Goals as goal

pub returns : goal.returns
returns c =
    let fits : let a = c.args in list_start a.store.now c.exporter_count-n.result + length a.list.now ≤ length a.store.now = rw c.exporter_count-n.ensures.0 (let h = c.requires.4 in let w = c.requires.1 in omega arith) in
    let s = c.args.store.now in
    let l = c.args.list.now in
    let n = c.exporter_count-n.result in
    let done = c.requires.3 in
    rw (c.copy.ensures, c.list_start-from.ensures)
    (exporter-pushed _ _ n c.exporter_count-n.ensures.0 s (placed s l n) _ l (omega arith) (rw c.exporter_kind.ensures at c.push_row.ensures)
    (placed-others s l n done (fits)) (placed-list s l n done (fits)))

pub list_start-from-requires : goal.list_start-from-requires
list_start-from-requires c =
    let fits : let a = c.args in list_start a.store.now c.exporter_count-n.result + length a.list.now ≤ length a.store.now = rw c.exporter_count-n.ensures.0 (let h = c.requires.4 in let w = c.requires.1 in omega arith) in
    let h = fits in (search rules, omega arith)

pub slice_bounds-copy-count : goal.slice_bounds-copy-count
slice_bounds-copy-count c =
    let fits : let a = c.args in list_start a.store.now c.exporter_count-n.result + length a.list.now ≤ length a.store.now = rw c.exporter_count-n.ensures.0 (let h = c.requires.4 in let w = c.requires.1 in omega arith) in
    let h = fits in let e = c.list_start-from.ensures in omega arith

pub slice_bounds-copy-start : goal.slice_bounds-copy-start
slice_bounds-copy-start c =
    let fits : let a = c.args in list_start a.store.now c.exporter_count-n.result + length a.list.now ≤ length a.store.now = rw c.exporter_count-n.ensures.0 (let h = c.requires.4 in let w = c.requires.1 in omega arith) in
    let h = fits in let e = c.list_start-from.ensures in omega arith

pub push_row-requires : goal.push_row-requires
push_row-requires c = rw c.exporter_kind.ensures (search rules)
