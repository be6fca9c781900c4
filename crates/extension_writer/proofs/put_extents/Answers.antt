-- `extension_writer::put_extents`: the extensions that are left, written from the next place on, give all.
use Prim.Native.Nat.{ℕ, ◌+◌, ◌-◌, ◌<◌, ◌≤◌}
use mathlib.Core.Path.{◌≡◌, refl, sym, ap, ◌∙◌}
use mathlib.Core.Bool.{true}
use mathlib.Core.List.{List}
use native.Mathlib.Omega.{arith}
use lib.ListN.{length, get_or, drop}
use Rattle.std.proofs.Common.{lit<}
use Rattle.fields.specs.Fields.{rounded}
use Rattle.fields.proofs.Fields.{written_none, length-written}
use Rattle.extensions.specs.Extensions.{extents_bytes}
use Rattle.extension_writer.specs.Writing.{sizes, words_writable, extents_length}
use Rattle.extension_writer.proofs.Entries.{Next, next, standing-first, at, left, at-first, left-first, left_none}
use Rattle.extension_writer.proofs.Writes.{entry, words-first, sizes-more, length_more, part_length, extents-next, described-none}
use Rattle.extension_writer.proofs.put_extents.Goals as goal
use Rattle.extension_writer.proofs.put_extents.Goals.{In-Some}

pub loop-entry-init : goal.loop-entry-init
loop-entry-init c =
    let items = c.chunks_exact-entry-items.ensures in
    let ws = c.args.entries.now in
    let rest = c.chunks_exact-entry-items.result.rest.now in
    let p = c.requires in
    rw (c.into_iter-entry-iterator.ensures.into_iter_gives, at-first ws rest items.rest, left-first ws rest items.rest)
    (standing-first _ _ _ items.size items.rest, p.1, refl, omega arith, p.2, refl)

-- the next entry
here : (c : In-Some) → Next c.args.entries.now c.loop-entry.entry-iterator.rest.now c.in-Some.entry.now c.next.new.self.rest.now c.next.new.self.size
here c = let s = c.in-Some.ensures.steps in next _ _ _ _ _ _ c.loop-entry.invariant.0 s.0 s.1.0 s.1.1

-- what it says, and its share of what is left
record Share (ws d b : List ℕ) (i left from to size : ℕ) : Type 0 where
  fit : size ≤ 4294967288
  sizes : size + sizes ws (i + 4) (left - 1) + from ≤ length d
  room : to + 24 + rounded size + extents_length ws (i + 4) (left - 1) ≤ length b

share_of : (ws d b : List ℕ) (i left from to size : ℕ) → size ≡ get_or ws (i + 3) 0 → 0 < left → words_writable ws i left ≡ true
    → from + sizes ws i left ≤ length d → to + extents_length ws i left ≤ length b → Share ws d b i left from to size
share_of ws d b i left from to size e some fits inside room =
    let s = sizes-more ws i left some in
    let m = length_more ws i left some in
    let f = (entry _ _ (words-first ws i left some fits).0).fit in
    record { fit = omega arith; sizes = omega arith; room = rw e (omega arith) }

share : (c : In-Some) → let rest = c.loop-entry.entry-iterator.rest.now in
    Share c.args.entries.now c.args.contents.now c.loop-entry.buf (at c.args.entries.now rest) (left rest) c.loop-entry.from c.loop-entry.to (get_or c.in-Some.entry.now 3 0)
share c =
    let i = c.loop-entry.invariant in
    share_of _ _ _ _ _ _ _ _ ((here c).words 3 (lit< tt)) (here c).some i.1 i.3 i.4

pub put_extent-requires : goal.put_extent-requires
put_extent-requires c =
    let h = share (goal.at.put_extent-requires c).In-Some in
    let k = part_length c.args.contents.now c.loop-entry.from (get_or c.in-Some.entry.now 3 0) (omega (arith, h.sizes)) in
    (rw k h.fit, rw k (omega (arith, h.room)))

pub overflow_add-to : goal.overflow_add-to
overflow_add-to c = let h = share (goal.at.overflow_add-to c).In-Some in omega (arith, h.fit, c.rounded.ensures)

pub overflow_add-to-in-loop-entry : goal.overflow_add-to-in-loop-entry
overflow_add-to-in-loop-entry c = let h = share (goal.at.overflow_add-to-in-loop-entry c).In-Some in omega (arith, h.room, c.rounded.ensures)

pub overflow_add-from-in-loop-entry : goal.overflow_add-from-in-loop-entry
overflow_add-from-in-loop-entry c = let h = share (goal.at.overflow_add-from-in-loop-entry c).In-Some in omega (arith, h.sizes)

pub loop-entry-preserved : goal.loop-entry-preserved
loop-entry-preserved c =
    let l = c.loop-entry in
    let ws = c.args.entries.now in
    let rest = l.entry-iterator.rest.now in
    let i = at ws rest in
    let n = left rest in
    let x = here (goal.at.loop-entry-preserved c).In-Some in
    let some = x.some in
    let h = share (goal.at.loop-entry-preserved c).In-Some in
    let hs = h.sizes in
    let hr = h.room in
    let w = c.rounded.ensures in
    let size = x.words 3 (lit< tt) in
    let begins : i + 0 ≡ i = omega arith in
    let e = rw (x.words 0 (lit< tt), begins, x.words 1 (lit< tt), size) at c.put_extent.ensures in
    let same : length c.put_extent.new.buf ≡ length l.buf = ap length c.put_extent.ensures ∙ length-written _ _ _ in
    rw (x.place, x.fewer) (
      x.standing,
      (words-first ws i n some l.invariant.1).1,
      same ∙ l.invariant.2,
      omega arith,
      omega arith,
      rw (e, w, size) (extents-next l.buf ws c.args.contents.now l.to l.from i n some l.invariant.3 l.invariant.4) ∙ l.invariant.5,
    )

pub returns : goal.returns
unfolding extents_bytes
returns c =
    let l = c.loop-entry in
    let ws = c.args.entries.now in
    let rest = l.entry-iterator.rest.now in
    let none = described-none ws (drop l.from c.args.contents.now) (at ws rest) (left rest) (left_none _ _ _ l.invariant.0 c.in-None.ensures.steps.1.0) in
    sym (written_none l.buf l.to) ∙ (rw none at l.invariant.5)

pub overflow_add-from : goal.overflow_add-from
overflow_add-from c = let h = share (goal.at.overflow_add-from c).In-Some in omega (arith, h.sizes)

pub slice_bounds-put_extent-end : goal.slice_bounds-put_extent-end
slice_bounds-put_extent-end c = let h = share (goal.at.slice_bounds-put_extent-end c).In-Some in omega (arith, h.sizes)

pub overflow_cast-size : goal.overflow_cast-size
overflow_cast-size c = let h = share (goal.at.overflow_cast-size c).In-Some in omega (arith, h.fit)

pub shape_of-buf : goal.shape_of-buf
shape_of-buf c = c.loop-entry.invariant.2
