-- `ExtensionWalk::step_answer`: the rows of `extension_step_answer`.
use Prim.Native.Nat.{◌+◌, ◌≤◌}
use mathlib.Core.Path.{◌≡◌, sym, ap, ◌∙◌}
use mathlib.Core.Bool.{true}
use native.Mathlib.Omega.{arith}
use borrow.Author.Tests.{leb-true}
use lib.Dec.{leb}
use lib.ListN.{length}
use Rattle.fields.specs.Fields.{rounded}
use Rattle.cursors.proofs.ExtentWalk.{no-extent, pointer-short, extent-short, extent-cut, extent-whole}
use Rattle.cursors.proofs.extents.ExtensionWalk.step_answer.Goals as goal

pub returns-then-not-inside : goal.returns-then-not-inside
returns-then-not-inside c = sym (pointer-short _ _ _ _ c.if-self-eq0.false (sym c.inside.ensures ∙ c.if-not-inside.true))

pub returns-then-not-inside-2 : goal.returns-then-not-inside-2
returns-then-not-inside-2 c =
    let pointed : leb (c.args.self.pointer + 4) (length c.args.s.now) ≡ true = sym c.inside.ensures ∙ c.if-not-inside.false in
    sym (extent-short _ _ _ _ c.if-self-eq0.false (pointed) (sym c.inside-2.ensures ∙ c.if-not-inside-2.true))

pub returns-then-not-inside-3 : goal.returns-then-not-inside-3
returns-then-not-inside-3 c =
    let pointed : leb (c.args.self.pointer + 4) (length c.args.s.now) ≡ true = sym c.inside.ensures ∙ c.if-not-inside.false in
    let fixed : leb (c.args.self.at + 24) (length c.args.s.now) ≡ true = sym c.inside-2.ensures ∙ c.if-not-inside-2.false in
    let size = c.rounded.ensures ∙ ap rounded c.read_u32.ensures in
    sym (extent-cut _ _ _ _ c.if-self-eq0.false (pointed) (fixed) _ size (sym c.inside-3.ensures ∙ c.if-not-inside-3.true))

pub returns : goal.returns
returns c =
    let pointed : leb (c.args.self.pointer + 4) (length c.args.s.now) ≡ true = sym c.inside.ensures ∙ c.if-not-inside.false in
    let fixed : leb (c.args.self.at + 24) (length c.args.s.now) ≡ true = sym c.inside-2.ensures ∙ c.if-not-inside-2.false in
    let size = c.rounded.ensures ∙ ap rounded c.read_u32.ensures in
    sym (extent-whole _ _ _ _ c.if-self-eq0.false (pointed) (fixed) _ size (sym c.inside-3.ensures ∙ c.if-not-inside-3.false))

pub returns-then-self-eq0 : goal.returns-then-self-eq0
returns-then-self-eq0 c = sym (no-extent _ _ _ _ c.if-self-eq0.true)

pub overflow_add-at : goal.overflow_add-at
overflow_add-at c =
    let fixed : leb (c.args.self.at + 24) (length c.args.s.now) ≡ true = sym c.inside-2.ensures ∙ c.if-not-inside-2.false in
    let room : c.args.self.at + 24 ≤ length c.args.s.now = leb-true _ _ (fixed) in
    omega (arith, room)

pub overflow_add-at-2 : goal.overflow_add-at-2
overflow_add-at-2 c =
    let fixed : leb (c.args.self.at + 24) (length c.args.s.now) ≡ true = sym c.inside-2.ensures ∙ c.if-not-inside-2.false in
    let room : c.args.self.at + 24 ≤ length c.args.s.now = leb-true _ _ (fixed) in
    omega (arith, room)
