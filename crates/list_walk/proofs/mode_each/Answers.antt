-- `list_walk::mode_each`: the bytes that are left, walked on, give what all of them give.
use Prim.Native.Nat.{◌+◌}
use mathlib.Core.Path.{◌≡◌, ◌∙◌}
use mathlib.Core.List.{◌∷◌}
use native.Mathlib.Omega.{arith}
use native.Mathlib.Numerals.{add-one}
use lib.ListN.{drop, get_or, drop_of_length-le}
use lib.Seq.{drop-cons}
use Rattle.list_walk.specs.Walk.{mode_after}
use Rattle.list_walk.proofs.TextBlocks.{seen-grows, mode-again}
use Rattle.list_walk.proofs.mode_each.Goals as goal

pub loop-byte-preserved : goal.loop-byte-preserved
loop-byte-preserved c =
    let a = c.args in
    let l = c.loop-byte in
    let s = a.bytes.now in
    let i = l.byte-index in
    let e : drop i s ≡ get_or s i 0 ∷ drop (i + 1) s = drop-cons s i 0 (omega arith) ∙ (rw (add-one i)) in
    let t = c.next_seen-at.ensures in
    let g = seen-grows l.at in (
      omega arith,
      mode-again a.n a.v a.start l.at l.last l.m (get_or s i 0) _ _ _ t c.next_mode-m.ensures ∙ (rw e at l.invariant.1),
    )

pub returns : goal.returns
unfolding mode_after
returns c =
    let s = c.args.bytes.now in
    let l = c.loop-byte in
    rw (drop_of_length-le s {i = l.byte-index} (omega arith)) at l.invariant.1
