-- `filter::put_requested`: what is written and what is left to write make the whole.
use Prim.Native.Nat.{ℕ}
use mathlib.Core.Path.{◌≡◌, refl, sym, ap, ◌∙◌}
use mathlib.Core.List.{List}
use mathlib.Core.Bool.{true, false}
use native.Mathlib.Omega.{arith}
use native.Mathlib.Nat.{add-zero}
use lib.ListN.{length}
use Rattle.fields.specs.Fields.{written, field, Bytes}
use Rattle.fields.proofs.Fields.{length-written, written_none}
use Rattle.lists.specs.Lists.{among}
use Rattle.bindings.specs.ListBytes.{word_bytes}
use Rattle.bindings.proofs.Walks.{strings-first, still-strings}
use Rattle.bindings.proofs.FilterLoops.{left_requested, room-taken, bytes-taken, requested-ended, written-empty}
use Rattle.bindings.proofs.filter.put_requested.Goals as goal

pub loop-binding-init : goal.loop-binding-init
loop-binding-init c =
    let a = c.args in
    let s = a.s.now in
    let e = c.into_iter-binding-iterator.ensures.into_iter_gives in
    let same = ap (left_requested a.protocols.now s) e in
    let n = ap length same in
    let room = c.requires.1 in
    (strings-first s _ _ e refl refl, refl, omega arith, ap (λ (x : List ℕ). written a.buf.now a.to (word_bytes x)) same)

pub loop-binding-preserved-then-is_requested : goal.loop-binding-preserved-then-is_requested
loop-binding-preserved-then-is_requested c =
    let a = c.args in
    let ps = a.protocols.now in
    let s = a.s.now in
    let l = c.loop-binding in
    let b = c.in-Some.binding in
    let t = c.in-Some.ensures.steps in
    let bytes : Bytes s = λ i. omega (arith, c.type_inv.s i) in
    let wanted : among ps (field s b.start 2) ≡ true = sym (c.is_requested.ensures ∙ ap (among ps) c.word.ensures) ∙ c.if-is_requested.true in
    let room = rw wanted at (room-taken ps s _ _ _ l.invariant.0 t bytes l.next (length l.buf) l.invariant.2) in
    let step = rw wanted at (bytes-taken ps s _ _ _ l.invariant.0 t bytes l.buf l.next l.invariant.2) in
    let put = c.copy.ensures in
    let same : length c.copy.new.buf ≡ length l.buf = ap length put ∙ length-written l.buf l.next _ in
    (still-strings s _ _ _ l.invariant.0 t, same ∙ l.invariant.1, rw same room, rw put (step ∙ l.invariant.3))

pub loop-binding-preserved : goal.loop-binding-preserved
loop-binding-preserved c =
    let a = c.args in
    let ps = a.protocols.now in
    let s = a.s.now in
    let l = c.loop-binding in
    let t = c.in-Some.ensures.steps in
    let bytes : Bytes s = λ i. omega (arith, c.type_inv.s i) in
    let unwanted : among ps (field s c.in-Some.binding.start 2) ≡ false = sym (c.is_requested.ensures ∙ ap (among ps) c.word.ensures) ∙ c.if-is_requested.false in
    let room = rw unwanted at (room-taken ps s _ _ _ l.invariant.0 t bytes l.next (length l.buf) l.invariant.2) in
    let step = rw (unwanted, written_none, add-zero) at (bytes-taken ps s _ _ _ l.invariant.0 t bytes l.buf l.next l.invariant.2) in
    (still-strings s _ _ _ l.invariant.0 t, l.invariant.1, omega arith, step ∙ l.invariant.3)

pub returns : goal.returns
returns c =
    let l = c.loop-binding in
    sym (written-empty l.buf _ l.next (requested-ended c.args.protocols.now c.args.s.now _ _ l.invariant.0 c.in-None.ensures.steps)) ∙ l.invariant.3
