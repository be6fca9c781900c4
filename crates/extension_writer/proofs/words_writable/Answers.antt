-- `extension_writer::words_writable`: the entries that are left pass where all do.
use mathlib.Core.Path.{refl, sym, ◌∙◌}
use Rattle.std.proofs.Common.{lit<}
use Rattle.extension_writer.proofs.Entries.{Next, next, standing-first, at, left, at-first, left-first, left_none}
use Rattle.extension_writer.proofs.Writes.{words_more, words-none}
use Rattle.extension_writer.proofs.words_writable.Goals as goal
use Rattle.extension_writer.proofs.words_writable.Goals.{In-Some}

-- the next entry
entry : (c : In-Some) → Next c.args.entries.now c.loop-entry.entry-iterator.rest.now c.in-Some.entry.now c.next.new.self.rest.now c.next.new.self.size
entry c = let s = c.in-Some.ensures.steps in next _ _ _ _ _ _ c.loop-entry.invariant.0 s.0 s.1.0 s.1.1

pub loop-entry-init : goal.loop-entry-init
loop-entry-init c =
    let items = c.chunks_exact-entry-items.ensures in
    let ws = c.args.entries.now in
    let rest = c.chunks_exact-entry-items.result.rest.now in
    rw (c.into_iter-entry-iterator.ensures.into_iter_gives, at-first ws rest items.rest, left-first ws rest items.rest)
    (standing-first _ _ _ items.size items.rest, refl)

pub returns-then-not-entry_writable : goal.returns-then-not-entry_writable
returns-then-not-entry_writable c =
    let l = c.loop-entry in
    let ws = c.args.entries.now in
    let rest = l.entry-iterator.rest.now in
    let x = entry (goal.at.returns-then-not-entry_writable c).In-Some in
    let more = words_more ws (at ws rest) (left rest) x.some in
    let no = sym (rw (x.words 2 (lit< tt), x.words 3 (lit< tt)) at c.entry_writable.ensures) ∙ c.if-not-entry_writable.true in
    sym (sym l.invariant.1 ∙ more ∙ (rw no))

pub loop-entry-preserved : goal.loop-entry-preserved
loop-entry-preserved c =
    let l = c.loop-entry in
    let ws = c.args.entries.now in
    let rest = l.entry-iterator.rest.now in
    let x = entry (goal.at.loop-entry-preserved c).In-Some in
    let more = words_more ws (at ws rest) (left rest) x.some in
    let yes = sym (rw (x.words 2 (lit< tt), x.words 3 (lit< tt)) at c.entry_writable.ensures) ∙ c.if-not-entry_writable.false in
    (x.standing, rw (x.place, x.fewer) (sym (more ∙ (rw yes)) ∙ l.invariant.1))

pub returns : goal.returns
returns c =
    let l = c.loop-entry in
    let rest = l.entry-iterator.rest.now in
    sym (words-none c.args.entries.now (at c.args.entries.now rest) (left rest) (left_none _ _ _ l.invariant.0 c.in-None.ensures.steps.1.0)) ∙ l.invariant.1
