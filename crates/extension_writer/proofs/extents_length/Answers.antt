-- `extension_writer::extents_length`: the sum so far, and what the entries that are left take.
use Prim.Native.Nat.{◌/◌, ◌≤◌}
use native.Mathlib.Omega.{arith}
use lib.ListN.{length, get_or}
use Rattle.std.proofs.Common.{lit<}
use Rattle.extension_writer.proofs.Entries.{Next, next, standing-first, at, left, at-first, left-first, left_none}
use Rattle.extension_writer.proofs.Writes.{entry, words-first, length_more, length_none, length_most}
use Rattle.extension_writer.proofs.extents_length.Goals as goal
use Rattle.extension_writer.proofs.extents_length.Goals.{In-Some, After-rounded}

-- the next entry
here : (c : In-Some) → Next c.args.entries.now c.loop-entry.entry-iterator.rest.now c.in-Some.entry.now c.next.new.self.rest.now c.next.new.self.size
here c = let s = c.in-Some.ensures.steps in next _ _ _ _ _ _ c.loop-entry.invariant.0 s.0 s.1.0 s.1.1

-- its data are short
fit : (c : In-Some) → get_or c.in-Some.entry.now 3 0 ≤ 4294967288
fit c =
    let x = here c in
    let w = x.words 3 (lit< tt) in
    omega (arith, (entry _ _ (words-first _ _ _ x.some c.loop-entry.invariant.1).0).fit)

pub loop-entry-init : goal.loop-entry-init
loop-entry-init c =
    let items = c.chunks_exact-entry-items.ensures in
    let ws = c.args.entries.now in
    let rest = c.chunks_exact-entry-items.result.rest.now in
    let m = length_most ws 0 (length ws / 4) c.requires.1 in
    rw (c.into_iter-entry-iterator.ensures.into_iter_gives, at-first ws rest items.rest, left-first ws rest items.rest)
    (standing-first _ _ _ items.size items.rest, c.requires.1, omega arith, omega arith)

pub overflow_cast-entry : goal.overflow_cast-entry
overflow_cast-entry c = omega (arith, fit (goal.at.overflow_cast-entry c).In-Some)

pub overflow_add-total : goal.overflow_add-total
overflow_add-total c = omega (arith, c.rounded.ensures, fit (goal.at.overflow_add-total c).In-Some)

pub overflow_add-total-in-loop-entry : goal.overflow_add-total-in-loop-entry
overflow_add-total-in-loop-entry c =
    let ws = c.args.entries.now in
    let rest = c.loop-entry.entry-iterator.rest.now in
    let x = here (goal.at.overflow_add-total-in-loop-entry c).In-Some in
    let more = length_more ws (at ws rest) (left rest) x.some in
    let size = rw (x.words 3 (lit< tt)) at c.rounded.ensures in
    omega (arith, size)

pub loop-entry-preserved : goal.loop-entry-preserved
loop-entry-preserved c =
    let l = c.loop-entry in
    let ws = c.args.entries.now in
    let rest = l.entry-iterator.rest.now in
    let x = here (goal.at.loop-entry-preserved c).In-Some in
    let more = length_more ws (at ws rest) (left rest) x.some in
    let size = rw (x.words 3 (lit< tt)) at c.rounded.ensures in
    rw (x.place, x.fewer) (x.standing, (words-first ws (at ws rest) (left rest) x.some l.invariant.1).1, omega arith, l.invariant.3)

pub returns : goal.returns
returns c =
    let l = c.loop-entry in
    let rest = l.entry-iterator.rest.now in
    let none = length_none c.args.entries.now (at c.args.entries.now rest) (left rest) (left_none _ _ _ l.invariant.0 c.in-None.ensures.steps.1.0) in
    omega arith
