-- `table_settle::drop_unheld`: the interfaces from i on are held, and what is left of all is the same.
use mathlib.Core.Path.{sym, ◌∙◌}
use native.Mathlib.Omega.{arith}
use borrow.Author.Rules.{rules}
use Rattle.table_settle.specs.Leaving.{held_left}
use Rattle.rules.specs.Sound.{held}
use Rattle.rules.specs.Rules.{no_interface}
use Rattle.table_view.specs.View.{memory, view}
use Rattle.table_view.proofs.LiveRows.{interfaces-length}
use Rattle.table_settle.proofs.Going.{going-none, going-stays, held-gone, held_all}
use Rattle.table_settle.proofs.drop_unheld.Goals as goal

pub loop-i-init : goal.loop-i-init
loop-i-init c =
    let ws = c.args.words.now in
    (search rules, λ s. going-none (λ e. e.interfaces) (λ e. held) held_left (view (memory ws s)) _ (c.interface_count-i.ensures.0 ∙ sym (interfaces-length ws)))

pub is_held-requires : goal.is_held-requires
is_held-requires c = let l = c.loop-i in (l.invariant.0, omega (arith, interfaces-length l.words, (l.invariant.1 l.words).within))

pub remove_interface-requires : goal.remove_interface-requires
remove_interface-requires c = let l = c.loop-i in (l.invariant.0, omega (arith, interfaces-length l.words, (l.invariant.1 l.words).within))

pub loop-i-preserved : goal.loop-i-preserved
loop-i-preserved c =
    let l = c.loop-i in
    (l.invariant.0, λ s. going-stays no_interface _ (omega arith) (l.invariant.1 s) (sym c.is_held.ensures ∙ c.if-not-is_held.false))

pub loop-i-preserved-then-not-is_held : goal.loop-i-preserved-then-not-is_held
loop-i-preserved-then-not-is_held c =
    let l = c.loop-i in (
      search rules,
      λ s.
          let out = sym c.is_held.ensures ∙ c.if-not-is_held.true in
          rw (c.remove_interface.ensures s) (held-gone (view (memory c.args.words.now s)) (view (memory l.words s)) l.i (l.invariant.1 s) _ (omega arith) out),
    )

pub returns : goal.returns
returns c s =
    let l = c.loop-i in
    held_all (view (memory c.args.words.now s)) (view (memory l.words s)) l.i (l.invariant.1 s) (omega arith)
