use Prim.Native.Nat.{◌+◌, ◌-◌}
use mathlib.Core.Path.{◌≡◌, refl, sym, ◌∙◌}
use native.Mathlib.Omega.{arith}
use borrow.Author.Rules.{rules}
use Rattle.std.specs.Prelude.{Err}
use Rattle.kinds.proofs.Answering.{refusal-some}
use Rattle.std.proofs.Math.Nat.{sub-zero}
use lib.ListN.{drop, length-drop}
use lib.Seq.{drop-drop}
use Rattle.fields.specs.Fields.{field}
use Rattle.fields.proofs.Fields.{take_rest}
use Rattle.contexts.proofs.Properties.{accepted, properties-next, properties-stop, properties-over, properties-done}
use Rattle.contexts.proofs.properties_answer.Goals as goal

pub loop-init : goal.loop-init
loop-init c = (omega arith, rw (sub-zero c.args.n) refl)

pub returns-in_err-property_answer : goal.returns-in_err-property_answer
returns-in_err-property_answer c =
    let t = c.args.t.now in
    let l = c.loop in
    let e = rw (take_rest t (l.heads + l.content)) at c.in_err-property_answer.ensures in
    let r : c.from_residual.result ≡ Err c.in_err-property_answer.field-0.0 = search rules in
    rw r (e ∙ sym (properties-stop (drop (l.heads + l.content) t) (c.args.n - l.counter) (omega arith) (refusal-some _ e)) ∙ l.invariant.1)

pub loop-preserved : goal.loop-preserved
loop-preserved c =
    let t = c.args.t.now in
    let l = c.loop in
    let left = c.args.n - l.counter in
    let rest = drop (l.heads + l.content) t in
    let done = sym (rw (take_rest t (l.heads + l.content)) at c.in_ok-property_answer.ensures) in
    let size = rw (take_rest t (l.heads + l.content)) at c.read_u32.ensures in
    let whole = (accepted rest done).whole in
    let n = length-drop (l.heads + l.content) t in
    let sum : l.heads + 40 + (l.content + field rest 36 4) ≡ l.heads + l.content + (40 + field rest 36 4) = omega arith in
    let fewer : c.args.n - (l.counter + 1) ≡ left - 1 = omega arith in
    (omega arith, rw (size, sum, fewer, ← drop-drop) (sym (properties-next rest left (omega arith) done) ∙ l.invariant.1))

pub returns-then-at-t : goal.returns-then-at-t
returns-then-at-t c =
    let t = c.args.t.now in
    let l = c.loop in
    let n = length-drop (l.heads + l.content) t in
    sym (properties-over (drop (l.heads + l.content) t) (c.args.n - l.counter) (omega arith) (omega arith)) ∙ l.invariant.1

pub returns : goal.returns
returns c =
    let t = c.args.t.now in
    let l = c.loop in
    let n = length-drop (l.heads + l.content) t in
    sym (properties-done (drop (l.heads + l.content) t) (c.args.n - l.counter) (omega arith) (omega arith)) ∙ l.invariant.1
