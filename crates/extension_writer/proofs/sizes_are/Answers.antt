-- `extension_writer::sizes_are`: what is left of the length and what is left of the sizes differ as the whole do.
use Prim.Native.Nat.{◌/◌}
use mathlib.Core.Path.{sym}
use native.Mathlib.Omega.{arith}
use borrow.Author.Tests.{eq-eqb, ne_eqb, eqb-true}
use lib.ListN.{length}
use Rattle.std.proofs.Common.{lit<}
use Rattle.kinds.proofs.Refusing.{same_test}
use Rattle.extension_writer.specs.Writing.{sizes}
use Rattle.extension_writer.proofs.Entries.{Next, next, standing-first, at, left, at-first, left-first, left_none}
use Rattle.extension_writer.proofs.Writes.{sizes-more, sizes-none}
use Rattle.extension_writer.proofs.sizes_are.Goals as goal
use Rattle.extension_writer.proofs.sizes_are.Goals.{In-Some}

-- the next entry
entry : (c : In-Some) → Next c.args.entries.now c.loop-entry.entry-iterator.rest.now c.in-Some.entry.now c.next.new.self.rest.now c.next.new.self.size
entry c = let s = c.in-Some.ensures.steps in next _ _ _ _ _ _ c.loop-entry.invariant.0 s.0 s.1.0 s.1.1

pub loop-entry-init : goal.loop-entry-init
loop-entry-init c =
    let items = c.chunks_exact-entry-items.ensures in
    let ws = c.args.entries.now in
    let rest = c.chunks_exact-entry-items.result.rest.now in
    rw (c.into_iter-entry-iterator.ensures.into_iter_gives, at-first ws rest items.rest, left-first ws rest items.rest)
    (standing-first _ _ _ items.size items.rest, omega arith)

pub returns-then-rest-size : goal.returns-then-rest-size
returns-then-rest-size c =
    let l = c.loop-entry in
    let ws = c.args.entries.now in
    let rest = l.entry-iterator.rest.now in
    let x = entry (goal.at.returns-then-rest-size c).In-Some in
    let more = sizes-more ws (at ws rest) (left rest) x.some in
    let word = x.words 3 (lit< tt) in
    let t = c.if-rest-size.true in
    sym (ne_eqb (sizes ws 0 (length ws / 4)) c.args.len (λ e. omega arith))

pub loop-entry-preserved : goal.loop-entry-preserved
loop-entry-preserved c =
    let ws = c.args.entries.now in
    let rest = c.loop-entry.entry-iterator.rest.now in
    let x = entry (goal.at.loop-entry-preserved c).In-Some in
    let more = sizes-more ws (at ws rest) (left rest) x.some in
    let word = x.words 3 (lit< tt) in
    (x.standing, rw (x.place, x.fewer) (omega arith))

pub returns : goal.returns
returns c =
    let l = c.loop-entry in
    let ws = c.args.entries.now in
    let rest = l.entry-iterator.rest.now in
    let none = sizes-none ws (at ws rest) (left rest) (left_none _ _ _ l.invariant.0 c.in-None.ensures.steps.1.0) in
    same_test _ _
    (λ e. let z = eqb-true l.rest 0 e in eq-eqb (sizes ws 0 (length ws / 4)) c.args.len (omega arith))
    (λ e. let z = eqb-true (sizes ws 0 (length ws / 4)) c.args.len e in eq-eqb l.rest 0 (omega arith))
