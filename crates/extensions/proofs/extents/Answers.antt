-- `extensions::extents`: the extensions that are left answer and end as all do.
use Prim.Native.Nat.{◌+◌, ◌-◌}
use mathlib.Core.Path.{◌≡◌, refl, sym, ◌∙◌}
use native.Mathlib.Omega.{arith}
use borrow.Author.Rules.{rules}
use Rattle.std.specs.Prelude.{Err}
use Rattle.kinds.proofs.Answering.{refusal-some}
use Rattle.std.proofs.Math.Nat.{sub-zero}
use Rattle.extensions.specs.Extensions.{extents_answer}
use Rattle.extensions.proofs.ArrayWalk.{extents-none, extents-stop, extents-more, start-more, walked_stop, walked-done}
use Rattle.extensions.proofs.extents.Goals as goal

pub loop-init : goal.loop-init
loop-init c = rw (sub-zero c.args.n) (refl, refl)

pub returns-in_err-extent_answer : goal.returns-in_err-extent_answer
returns-in_err-extent_answer c =
    let l = c.loop in
    let e = c.in_err-extent_answer.ensures in
    let r : c.from_residual.result ≡ Err c.in_err-extent_answer.field-0.0 = search rules in
    rw r (walked_stop _ _ _ (e ∙ sym (extents-stop c.args.s.now l.i (c.args.n - l.counter) (omega arith) (refusal-some _ e)) ∙ l.invariant.0))

pub next-i-requires : goal.next-i-requires
next-i-requires c = sym c.in_ok-extent_answer.ensures

pub loop-preserved : goal.loop-preserved
loop-preserved c =
    let l = c.loop in
    let s = c.args.s.now in
    let left = c.args.n - l.counter in
    let fewer : c.args.n - (l.counter + 1) ≡ left - 1 = omega arith in
    let more = extents-more s l.i left (omega arith) (sym c.in_ok-extent_answer.ensures) in
    let start = start-more s l.i left (omega arith) in
    rw (c.next-i.ensures, fewer) (sym more ∙ l.invariant.0, sym start ∙ l.invariant.1)

pub returns : goal.returns
returns c =
    let l = c.loop in
    let z = extents-none c.args.s.now l.i (c.args.n - l.counter) (omega arith) in
    walked-done _ _ (sym l.invariant.0 ∙ z.0) (sym z.1 ∙ l.invariant.1)
