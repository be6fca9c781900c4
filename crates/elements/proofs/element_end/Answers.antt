-- `element_end`: the rows of `element_end`.
use Prim.Native.Nat.{◌+◌, ◌<◌, ◌≤◌}
use mathlib.Core.Path.{◌≡◌, sym, ◌∙◌}
use native.Mathlib.Omega.{arith}
use borrow.Author.Tests.{lt-ltb, le-ltb}
use lib.ListN.{length}
use Rattle.kinds.specs.Refusals.{order}
use Rattle.fields.specs.Fields.{field, all_zero}
use Rattle.elements.specs.Elements.{padding, element_end}
use Rattle.elements.proofs.ElementAnswers.{content-within, padding-zero}
use Rattle.elements.proofs.element_end.Goals as goal

pub overflow_sub-to : goal.overflow_sub-to
overflow_sub-to c =
    let w = content-within _ c.requires in
    let from = c.read_u32.ensures in
    let to = c.read_u32-2.ensures in
    omega arith

pub returns-then-not-is_zero : goal.returns-then-not-is_zero
unfolding element_end order
returns-then-not-is_zero c =
    let clear : c.is_zero.result ≡ all_zero (padding c.args.t.now) = c.is_zero.ensures ∙ padding-zero _ _ _ c.requires c.read_u32.ensures c.read_u32-2.ensures in
    simp (sym (clear) ∙ c.if-not-is_zero.true)

pub returns-then-to-t : goal.returns-then-to-t
unfolding element_end order
returns-then-to-t c =
    let clear : c.is_zero.result ≡ all_zero (padding c.args.t.now) = c.is_zero.ensures ∙ padding-zero _ _ _ c.requires c.read_u32.ensures c.read_u32-2.ensures in
    let t = c.args.t.now in
    let to = c.read_u32-2.ensures in
    let more : 24 + field t 20 4 < length t = omega arith in
    simp (sym (clear) ∙ c.if-not-is_zero.false, lt-ltb _ _ more)

pub returns : goal.returns
unfolding element_end order
returns c =
    let clear : c.is_zero.result ≡ all_zero (padding c.args.t.now) = c.is_zero.ensures ∙ padding-zero _ _ _ c.requires c.read_u32.ensures c.read_u32-2.ensures in
    let t = c.args.t.now in
    let to = c.read_u32-2.ensures in
    let all : length t ≤ 24 + field t 20 4 = omega arith in
    simp (sym (clear) ∙ c.if-not-is_zero.false, le-ltb _ _ all)
