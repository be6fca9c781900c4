-- `table_settle::drop_objects`: the objects from i on stay, and what is left of all is the same.
use mathlib.Core.Path.{sym, ap, ◌∙◌}
use native.Mathlib.Omega.{arith}
use lib.Dec.{eqb}
use Rattle.lists.specs.Lists.{distinct}
use Rattle.rules.specs.Entries.{Entries, oids}
use Rattle.table_view.specs.View.{memory, view}
use borrow.Author.Rules.{rules}
use Rattle.table_settle.specs.Leaving.{stays, objects_left}
use Rattle.rules.specs.Rules.{no_object}
use Rattle.table_view.proofs.LiveRows.{objects-length}
use Rattle.table_settle.proofs.Going.{going-none, going-stays, object_leaves, objects-all, distinct-left, below-live}
use Rattle.table_settle.proofs.drop_objects.Goals as goal

pub loop-i-init : goal.loop-i-init
loop-i-init c =
    let a = c.args in
    let n = c.object_count-i.ensures.0 ∙ sym (objects-length a.words.now) in (
      search rules,
      λ s. going-none (λ e. e.objects) (stays a.why) (λ e. objects_left (stays a.why e) e) (view (memory a.words.now s)) _ n,
      c.requires.1,
      c.requires.2,
    )

pub is_staying-requires : goal.is_staying-requires
is_staying-requires c = let l = c.loop-i in (l.invariant.0, omega (arith, objects-length l.words, (l.invariant.1 l.words).within))

pub remove_object-requires : goal.remove_object-requires
remove_object-requires c =
    let l = c.loop-i in
    (l.invariant.0, omega (arith, objects-length l.words, (l.invariant.1 l.words).within), l.invariant.2, l.invariant.3)

pub loop-i-preserved : goal.loop-i-preserved
loop-i-preserved c =
    let l = c.loop-i in (
      l.invariant.0,
      λ s. going-stays no_object _ (omega arith) (l.invariant.1 s) (sym (c.is_staying.ensures s) ∙ c.if-not-is_staying.false),
      l.invariant.2,
      l.invariant.3,
    )

pub loop-i-preserved-then-not-is_staying : goal.loop-i-preserved-then-not-is_staying
loop-i-preserved-then-not-is_staying c =
    let l = c.loop-i in
    let gone = c.remove_object.ensures in (
      search rules,
      λ s.
          let out = sym (c.is_staying.ensures s) ∙ c.if-not-is_staying.true in
          rw (gone.0 s) (object_leaves c.args.why (view (memory c.args.words.now s)) (view (memory l.words s)) l.i (l.invariant.1 s) _ (omega arith) l.invariant.3 out),
      gone.1,
      ap (λ (f : Entries). distinct eqb (oids f)) (gone.0 l.words) ∙ distinct-left _ (view (memory l.words l.words)) l.invariant.3,
    )

pub returns : goal.returns
returns c =
    let l = c.loop-i in (
      (λ s. objects-all c.args.why (view (memory c.args.words.now s)) (view (memory l.words s)) l.i (l.invariant.1 s) (omega arith) (below-live l.words s l.invariant.2)),
      l.invariant.2,
    )
