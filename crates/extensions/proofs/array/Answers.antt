-- `extensions::array`: its own fields, and what its pointer points to.
use mathlib.Core.Path.{◌≡◌, sym, ◌∙◌}
use native.Mathlib.Omega.{arith}
use borrow.Author.Rules.{rules}
use Rattle.std.specs.Prelude.{Err}
use Rattle.kinds.proofs.Answering.{refusal-some}
use Rattle.extensions.specs.Extensions.{front_answer}
use Rattle.extensions.proofs.ArrayWalk.{walked_stop, array-stop, array-null, array-rest, Fronted, fronted}
use Rattle.extensions.proofs.array.Goals as goal

pub returns-in_err-front_answer : goal.returns-in_err-front_answer
returns-in_err-front_answer c =
    let e = c.in_err-front_answer.ensures in
    let r : c.from_residual.result ≡ Err c.in_err-front_answer.field-0.0 = search rules in
    rw r (walked_stop _ _ _ (e ∙ sym (array-stop _ _ (refusal-some _ e))))

pub overflow_add-at : goal.overflow_add-at
overflow_add-at c =
    let done : front_answer c.args.s.now c.args.at ≡ 0 = sym c.in_ok-front_answer.ensures in
    let ok : Fronted c.args.s.now c.args.at = fronted _ _ (done) in
    let h = ok in omega (arith, h.room)

pub overflow_add-result : goal.overflow_add-result
overflow_add-result c =
    let done : front_answer c.args.s.now c.args.at ≡ 0 = sym c.in_ok-front_answer.ensures in
    let ok : Fronted c.args.s.now c.args.at = fronted _ _ (done) in
    let h = ok in omega (arith, h.room)

pub returns-then-read_u32-eq0 : goal.returns-then-read_u32-eq0
returns-then-read_u32-eq0 c =
    let done : front_answer c.args.s.now c.args.at ≡ 0 = sym c.in_ok-front_answer.ensures in
    sym (array-null _ _ (done) (sym c.read_u32.ensures ∙ c.if-read_u32-eq0.true))

pub pointed-requires : goal.pointed-requires
pointed-requires c =
    let done : front_answer c.args.s.now c.args.at ≡ 0 = sym c.in_ok-front_answer.ensures in
    let ok : Fronted c.args.s.now c.args.at = fronted _ _ (done) in
    (ok).room

pub returns : goal.returns
returns c =
    let done : front_answer c.args.s.now c.args.at ≡ 0 = sym c.in_ok-front_answer.ensures in
    c.pointed.ensures ∙ sym (array-rest _ _ (done) (λ z. c.if-read_u32-eq0.false (c.read_u32.ensures ∙ z)))
