-- `filter::requested_words`: the words counted and those of the bindings that are left make the whole.
use mathlib.Core.Bool.{true, false}
use Rattle.fields.specs.Fields.{field}
use Rattle.lists.specs.Lists.{among}
use mathlib.Core.Path.{◌≡◌, refl, sym, ap, ◌∙◌}
use native.Mathlib.Nat.{zero-add}
use native.Mathlib.Omega.{arith}
use lib.ListN.{length}
use Rattle.bindings.specs.declared.Walk.{Walk}
use Rattle.bindings.proofs.Walks.{strings-first, still-strings}
use Rattle.bindings.proofs.FilterLoops.{left_requested, words-taken, requested-ended}
use Rattle.bindings.proofs.filter.requested_words.Goals as goal

pub loop-binding-init : goal.loop-binding-init
loop-binding-init c =
    let s = c.args.s.now in
    let e = c.into_iter-binding-iterator.ensures.into_iter_gives in
    let left = ap (λ (w : Walk). w.left) e in
    (strings-first s _ _ e refl refl, omega arith, zero-add _ ∙ ap (λ (w : Walk). length (left_requested c.args.protocols.now s w)) e)

pub loop-binding-preserved-then-is_requested : goal.loop-binding-preserved-then-is_requested
loop-binding-preserved-then-is_requested c =
    let ps = c.args.protocols.now in
    let s = c.args.s.now in
    let l = c.loop-binding in
    let t = c.in-Some.ensures.steps in
    let wanted : among ps (field s c.in-Some.binding.start 2) ≡ true = sym (c.is_requested.ensures ∙ ap (among ps) c.word.ensures) ∙ c.if-is_requested.true in
    let more = rw wanted at (words-taken ps s _ _ _ l.invariant.0 t) in
    (still-strings s _ _ _ l.invariant.0 t, omega (arith, t.from, t.to, t.left, t.most), omega arith)

pub loop-binding-preserved : goal.loop-binding-preserved
loop-binding-preserved c =
    let ps = c.args.protocols.now in
    let s = c.args.s.now in
    let l = c.loop-binding in
    let t = c.in-Some.ensures.steps in
    let unwanted : among ps (field s c.in-Some.binding.start 2) ≡ false = sym (c.is_requested.ensures ∙ ap (among ps) c.word.ensures) ∙ c.if-is_requested.false in
    let same = rw unwanted at (words-taken ps s _ _ _ l.invariant.0 t) in
    (still-strings s _ _ _ l.invariant.0 t, omega (arith, t.left), omega arith)

pub returns : goal.returns
returns c =
    let l = c.loop-binding in
    let none = ap length (requested-ended c.args.protocols.now c.args.s.now _ _ l.invariant.0 c.in-None.ensures.steps) in
    (omega arith, omega arith)
