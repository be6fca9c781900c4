-- `table_settle::drop_sets`: the sets from i on stay, and what is left of all is the same.
use mathlib.Core.Path.{sym, ◌∙◌}
use native.Mathlib.Omega.{arith}
use borrow.Author.Rules.{rules}
use Rattle.table_settle.specs.Leaving.{sets_left}
use Rattle.rules.specs.Rules.{no_set}
use Rattle.table_view.specs.View.{memory, view}
use Rattle.table_view.proofs.LiveRows.{sets-length}
use Rattle.table_settle.proofs.Going.{going-none, going-stays, set-gone, sets-all}
use Rattle.rules.specs.Sound.{pinged_within}
use Rattle.table_settle.proofs.drop_sets.Goals as goal

pub loop-i-init : goal.loop-i-init
loop-i-init c =
    let a = c.args in
    let n = c.set_count-i.ensures.0 ∙ sym (sets-length a.words.now) in
    (search rules, λ s. going-none (λ e. e.sets) (λ e. pinged_within a.time) (sets_left a.time) (view (memory a.words.now s)) _ n)

pub is_pinged_within-requires : goal.is_pinged_within-requires
is_pinged_within-requires c = let l = c.loop-i in (l.invariant.0, omega (arith, sets-length l.words, (l.invariant.1 l.words).within))

pub remove_set-requires : goal.remove_set-requires
remove_set-requires c = let l = c.loop-i in (l.invariant.0, omega (arith, sets-length l.words, (l.invariant.1 l.words).within))

pub loop-i-preserved : goal.loop-i-preserved
loop-i-preserved c =
    let l = c.loop-i in
    (l.invariant.0, λ s. going-stays no_set _ (omega arith) (l.invariant.1 s) (sym c.is_pinged_within.ensures ∙ c.if-not-is_pinged_within.false))

pub loop-i-preserved-then-not-is_pinged_within : goal.loop-i-preserved-then-not-is_pinged_within
loop-i-preserved-then-not-is_pinged_within c =
    let l = c.loop-i in (
      search rules,
      λ s.
          let out = sym c.is_pinged_within.ensures ∙ c.if-not-is_pinged_within.true in
          rw (c.remove_set.ensures s) (set-gone c.args.time (view (memory c.args.words.now s)) (view (memory l.words s)) l.i (l.invariant.1 s) _ (omega arith) out),
    )

pub returns : goal.returns
returns c s =
    let l = c.loop-i in
    sets-all c.args.time (view (memory c.args.words.now s)) (view (memory l.words s)) l.i (l.invariant.1 s) (omega arith)
