-- `extension_writer::put_pointers`: the pointers that are left, written from the next place on, give all.
use mathlib.Core.Path.{◌≡◌, refl, sym, ap, ◌∙◌}
use mathlib.Core.List.{[]}
use native.Mathlib.Omega.{arith}
use lib.ListN.{length}
use Rattle.std.proofs.Common.{lit<}
use Rattle.fields.proofs.Fields.{written_none, length-written}
use Rattle.extensions.specs.Extensions.{pointers_bytes}
use Rattle.extension_writer.proofs.Entries.{Next, next, standing-first, at, left, at-first, left-first, left_none}
use Rattle.extension_writer.proofs.Writes.{entry, words-first, pointers-step, described-none}
use Rattle.extension_writer.proofs.put_pointers.Goals as goal
use Rattle.extension_writer.proofs.put_pointers.Goals.{In-Some}

-- the next entry
here : (c : In-Some) → Next c.args.entries.now c.loop-entry.entry-iterator.rest.now c.in-Some.entry.now c.next.new.self.rest.now c.next.new.self.size
here c = let s = c.in-Some.ensures.steps in next _ _ _ _ _ _ c.loop-entry.invariant.0 s.0 s.1.0 s.1.1

pub loop-entry-init : goal.loop-entry-init
loop-entry-init c =
    let items = c.chunks_exact-entry-items.ensures in
    let ws = c.args.entries.now in
    let rest = c.chunks_exact-entry-items.result.rest.now in
    rw (c.into_iter-entry-iterator.ensures.into_iter_gives, at-first ws rest items.rest, left-first ws rest items.rest)
    (standing-first _ _ _ items.size items.rest, c.requires.0, refl, c.requires.1, refl)

pub overflow_cast-entry : goal.overflow_cast-entry
overflow_cast-entry c =
    let x = here (goal.at.overflow_cast-entry c).In-Some in
    let word = x.words 2 (lit< tt) in
    omega (arith, (entry _ _ (words-first _ _ _ x.some c.loop-entry.invariant.1).0).narrow)

pub loop-entry-preserved : goal.loop-entry-preserved
unfolding pointers_bytes
loop-entry-preserved c =
    let l = c.loop-entry in
    let ws = c.args.entries.now in
    let rest = l.entry-iterator.rest.now in
    let i = at ws rest in
    let n = left rest in
    let x = here (goal.at.loop-entry-preserved c).In-Some in
    let some = x.some in
    let e = rw (x.words 2 (lit< tt)) at c.write_u32.ensures in
    let same : length c.write_u32.new.buf ≡ length l.buf = ap length e ∙ length-written _ _ _ in
    rw (x.place, x.fewer) (
      x.standing,
      (words-first ws i n some l.invariant.1).1,
      same ∙ l.invariant.2,
      omega arith,
      rw e (pointers-step l.buf ws [] l.to i n some l.invariant.3) ∙ l.invariant.4,
    )

pub returns : goal.returns
unfolding pointers_bytes
returns c =
    let l = c.loop-entry in
    let rest = l.entry-iterator.rest.now in
    let none = described-none c.args.entries.now [] (at c.args.entries.now rest) (left rest) (left_none _ _ _ l.invariant.0 c.in-None.ensures.steps.1.0) in
    sym (written_none l.buf l.to) ∙ (rw none at l.invariant.4)

pub shape_of-buf : goal.shape_of-buf
shape_of-buf c = c.loop-entry.invariant.2
