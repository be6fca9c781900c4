-- `extensions::pointers_answer`: the pointers that are left answer as all do.
use Prim.Native.Nat.{◌+◌, ◌-◌, ◌≤◌}
use mathlib.Core.Path.{◌≡◌, refl, sym, ◌∙◌}
use native.Mathlib.Omega.{arith}
use borrow.Author.Tests.{leb-true}
use lib.ListN.{length}
use Rattle.std.proofs.Math.Nat.{sub-zero}
use Rattle.extensions.proofs.ArrayWalk.{pointers-none, pointers-short, pointers-null, pointers-more}
use Rattle.extensions.proofs.pointers_answer.Goals as goal

pub loop-init : goal.loop-init
loop-init c = rw (sub-zero c.args.n) refl

pub returns-then-not-inside : goal.returns-then-not-inside
returns-then-not-inside c =
    let l = c.loop in
    sym (pointers-short c.args.s.now l.i (c.args.n - l.counter) (omega arith) (sym c.inside.ensures ∙ c.if-not-inside.true)) ∙ l.invariant

pub returns-then-read_u32-eq0 : goal.returns-then-read_u32-eq0
returns-then-read_u32-eq0 c =
    let l = c.loop in
    sym (pointers-null c.args.s.now l.i (c.args.n - l.counter) (omega arith) (sym c.inside.ensures ∙ c.if-not-inside.false) (sym c.read_u32.ensures ∙ c.if-read_u32-eq0.true)) ∙ l.invariant

pub overflow_add-i : goal.overflow_add-i
overflow_add-i c =
    let room : c.loop.i + 4 ≤ length c.args.s.now = leb-true _ _ (sym c.inside.ensures ∙ c.if-not-inside.false) in
    omega arith

pub loop-preserved : goal.loop-preserved
loop-preserved c =
    let l = c.loop in
    let fewer : c.args.n - (l.counter + 1) ≡ c.args.n - l.counter - 1 = omega arith in
    rw fewer (sym (pointers-more c.args.s.now l.i (c.args.n - l.counter) (omega arith) (sym c.inside.ensures ∙ c.if-not-inside.false) (λ z. c.if-read_u32-eq0.false (c.read_u32.ensures ∙ z))) ∙ l.invariant)

pub returns : goal.returns
returns c =
    let l = c.loop in
    sym (pointers-none c.args.s.now l.i (c.args.n - l.counter) (omega arith)) ∙ l.invariant
