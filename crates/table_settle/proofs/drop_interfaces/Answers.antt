-- `table_settle::drop_interfaces`: the interfaces from i on stay, and what is left of all is the same.
use mathlib.Core.Path.{sym, ◌∙◌}
use native.Mathlib.Omega.{arith}
use borrow.Author.Rules.{rules}
use Rattle.table_settle.specs.Leaving.{interfaces_left}
use Rattle.rules.specs.Rules.{no_interface}
use Rattle.table_view.specs.View.{memory, view}
use Rattle.table_view.proofs.LiveRows.{interfaces-length}
use Rattle.table_settle.proofs.Going.{interface_stays, going-none, going-stays, interface-gone, interfaces-all}
use Rattle.table_settle.proofs.drop_interfaces.Goals as goal

pub loop-i-init : goal.loop-i-init
loop-i-init c =
    let ws = c.args.words.now in
    (search rules, λ s. going-none (λ e. e.interfaces) interface_stays interfaces_left (view (memory ws s)) _ (c.interface_count-i.ensures.0 ∙ sym (interfaces-length ws)))

pub interface_object-requires : goal.interface_object-requires
interface_object-requires c = let l = c.loop-i in (l.invariant.0, omega (arith, interfaces-length l.words, (l.invariant.1 l.words).within))

pub remove_interface-requires : goal.remove_interface-requires
remove_interface-requires c = let l = c.loop-i in (l.invariant.0, omega (arith, interfaces-length l.words, (l.invariant.1 l.words).within))

pub loop-i-preserved : goal.loop-i-preserved
loop-i-preserved c =
    let l = c.loop-i in
    let live = rw (c.oids.ensures, c.interface_object.ensures) at c.is_among.ensures in
    (l.invariant.0, λ s. going-stays no_interface _ (omega arith) (l.invariant.1 s) (sym live ∙ c.if-not-is_among.false))

pub loop-i-preserved-then-not-is_among : goal.loop-i-preserved-then-not-is_among
loop-i-preserved-then-not-is_among c =
    let l = c.loop-i in
    let live = rw (c.oids.ensures, c.interface_object.ensures) at c.is_among.ensures in (
      search rules,
      λ s.
          let out = sym live ∙ c.if-not-is_among.true in
          rw (c.remove_interface.ensures s) (interface-gone (view (memory c.args.words.now s)) (view (memory l.words s)) l.i (l.invariant.1 s) _ (omega arith) out),
    )

pub returns : goal.returns
returns c s =
    let l = c.loop-i in
    interfaces-all (view (memory c.args.words.now s)) (view (memory l.words s)) l.i (l.invariant.1 s) (omega arith)
