-- `table_edit::remove_exporter`: the later lists move down, and a row of the exporters is taken out.
use native.Mathlib.Omega.{arith}
use native.Mathlib.Numerals.{add-one}
use Prim.Native.Nat.{◌+◌, ◌≤◌, ◌<◌}
use mathlib.Core.Path.{◌≡◌, ◌∙◌}
use lib.ListN.{length}
use Rattle.table_view.specs.View.{list_start}
use Rattle.table_view.specs.Placed.{closed}
use Rattle.table_view.proofs.StoredLists.{starts-rise, closed-up}
use Rattle.table_edit.proofs.ExporterLists.{exporter-pulled}
use borrow.Author.Rules.{rules}
use Rattle.table_edit.proofs.remove_exporter.Goals as goal

pub list_start-to-requires : goal.list_start-to-requires
list_start-to-requires c =
    let room : list_start c.args.store.now c.exporter_count-n.result ≤ length c.args.store.now = rw c.exporter_count-n.ensures.0 (let h = c.requires.3 in let w = c.requires.1 in omega arith) in
    let live : c.args.i < c.exporter_count-n.result = let e = c.exporter_count-n.ensures.0 in let h = c.requires.2 in omega arith in
    let a = c.args in
    let h = room in
    let l = live in
    let r = starts-rise a.store.now a.i c.exporter_count-n.result (omega arith) in
    (search rules, omega arith)

pub list_start-from-requires : goal.list_start-from-requires
list_start-from-requires c =
    let room : list_start c.args.store.now c.exporter_count-n.result ≤ length c.args.store.now = rw c.exporter_count-n.ensures.0 (let h = c.requires.3 in let w = c.requires.1 in omega arith) in
    let live : c.args.i < c.exporter_count-n.result = let e = c.exporter_count-n.ensures.0 in let h = c.requires.2 in omega arith in
    let a = c.args in
    let h = room in
    let l = live in
    let r = starts-rise a.store.now (a.i + 1) c.exporter_count-n.result (omega arith) in
    (search rules, omega arith)

pub overflow_sub-left : goal.overflow_sub-left
overflow_sub-left c =
    let live : c.args.i < c.exporter_count-n.result = let e = c.exporter_count-n.ensures.0 in let h = c.requires.2 in omega arith in
    let a = c.args in
    let l = live in
    let r = starts-rise a.store.now (a.i + 1) c.exporter_count-n.result (omega arith) in
    let e = c.list_start.ensures in
    let f = c.list_start-from.ensures in
    omega arith

pub returns : goal.returns
returns c =
    let room : list_start c.args.store.now c.exporter_count-n.result ≤ length c.args.store.now = rw c.exporter_count-n.ensures.0 (let h = c.requires.3 in let w = c.requires.1 in omega arith) in
    let live : c.args.i < c.exporter_count-n.result = let e = c.exporter_count-n.ensures.0 in let h = c.requires.2 in omega arith in
    let s = c.args.store.now in
    let i = c.args.i in
    let n = c.exporter_count-n.result in
    let to = c.list_start-to.ensures in
    let moved : c.copy_down.new.store ≡ closed s i n =
    c.copy_down.ensures ∙ (rw (c.list_start.ensures, c.list_start-from.ensures, to, add-one i)) in
    rw moved
    (exporter-pulled _ _ n c.exporter_count-n.ensures.0 s (closed s i n) i (live) (rw c.exporter_kind.ensures at c.pull_row.ensures)
    (closed-up s i n (live) (room)))

pub list_start-requires : goal.list_start-requires
list_start-requires c =
    let room : list_start c.args.store.now c.exporter_count-n.result ≤ length c.args.store.now = rw c.exporter_count-n.ensures.0 (let h = c.requires.3 in let w = c.requires.1 in omega arith) in
    let h = room in (search rules, h)

pub pull_row-requires : goal.pull_row-requires
pull_row-requires c = rw c.exporter_kind.ensures (search rules)
