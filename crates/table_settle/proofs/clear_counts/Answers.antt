-- `table_settle::clear_counts`: the interfaces from i on are cleared, and all cleared is the same.
use mathlib.Core.Path.{sym, ◌∙◌}
use native.Mathlib.Omega.{arith}
use native.Mathlib.Numerals.{add-one}
use borrow.Author.Rules.{rules}
use Rattle.table_view.specs.View.{memory, view}
use Rattle.table_view.proofs.LiveRows.{interfaces-length}
use Rattle.table_settle.specs.Leaving.{cleared}
use Rattle.table_settle.proofs.Going.{none_of, going-none, clearing-row, clearing-all}
use Rattle.table_settle.proofs.clear_counts.Goals as goal

pub loop-i-init : goal.loop-i-init
loop-i-init c =
    let a = c.args in
    let n = c.interface_count-i.ensures.0 ∙ sym (interfaces-length a.words.now) in
    (search rules, λ s. going-none (λ e. e.interfaces) (λ e. none_of a.client) (cleared a.client) (view (memory a.words.now s)) _ n)

pub store_count-requires : goal.store_count-requires
store_count-requires c =
    let l = c.loop-i in
    let n = interfaces-length l.words in
    let g = (l.invariant.1 l.words).within in
    (l.invariant.0, omega arith, omega arith)

pub loop-i-preserved : goal.loop-i-preserved
loop-i-preserved c =
    let l = c.loop-i in
    let a = c.args in (
      search rules,
      λ s.
          let e = view (memory a.words.now s) in
          rw (c.store_count.ensures s, add-one a.client) (clearing-row a.client e (view (memory l.words s)) l.i (l.invariant.1 s) _ (omega arith)),
    )

pub returns : goal.returns
returns c s =
    let l = c.loop-i in
    clearing-all c.args.client (view (memory c.args.words.now s)) (view (memory l.words s)) l.i (l.invariant.1 s) (omega arith)
