-- `properties::step_answer`: the rows of `property_step_answer`.
use Prim.Native.Nat.{◌+◌, ◌≤◌}
use mathlib.Core.Path.{◌≡◌, sym, ◌∙◌}
use mathlib.Core.Bool.{true}
use native.Mathlib.Omega.{arith}
use borrow.Author.Tests.{leb-true}
use lib.Dec.{leb}
use lib.ListN.{length}
use Rattle.cursors.proofs.PropertyWalk.{none_left, property-short, property-cut, property-whole}
use Rattle.cursors.proofs.properties.step_answer.Goals as goal

pub returns-then-not-inside : goal.returns-then-not-inside
returns-then-not-inside c = sym (property-short _ _ _ c.if-left-eq0.false (sym c.inside.ensures ∙ c.if-not-inside.true))

pub returns-then-not-inside-2 : goal.returns-then-not-inside-2
returns-then-not-inside-2 c =
    let fixed : leb (c.args.at + 40) (length c.args.s.now) ≡ true = sym c.inside.ensures ∙ c.if-not-inside.false in
    sym (property-cut _ _ _ c.if-left-eq0.false (fixed) _ c.read_u32.ensures (sym c.inside-2.ensures ∙ c.if-not-inside-2.true))

pub returns : goal.returns
returns c =
    let fixed : leb (c.args.at + 40) (length c.args.s.now) ≡ true = sym c.inside.ensures ∙ c.if-not-inside.false in
    sym (property-whole _ _ _ c.if-left-eq0.false (fixed) _ c.read_u32.ensures (sym c.inside-2.ensures ∙ c.if-not-inside-2.false))

pub returns-then-left-eq0 : goal.returns-then-left-eq0
returns-then-left-eq0 c = sym (none_left _ _ _ c.if-left-eq0.true)

pub overflow_add-at : goal.overflow_add-at
overflow_add-at c =
    let fixed : leb (c.args.at + 40) (length c.args.s.now) ≡ true = sym c.inside.ensures ∙ c.if-not-inside.false in
    let room : c.args.at + 40 ≤ length c.args.s.now = leb-true _ _ (fixed) in
    omega (arith, room)

pub overflow_add-at-2 : goal.overflow_add-at-2
overflow_add-at-2 c =
    let fixed : leb (c.args.at + 40) (length c.args.s.now) ≡ true = sym c.inside.ensures ∙ c.if-not-inside.false in
    let room : c.args.at + 40 ≤ length c.args.s.now = leb-true _ _ (fixed) in
    omega (arith, room)
