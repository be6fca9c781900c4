-- `extensions::counted_answer`: the rows of `counted_answer`.
use Prim.Native.Nat.{◌+◌, ◌*◌, ◌≤◌}
use mathlib.Core.Path.{◌≡◌, sym, ◌∙◌}
use mathlib.Core.Bool.{true}
use native.Mathlib.Omega.{arith}
use borrow.Author.Rules.{rules}
use borrow.Author.Tests.{leb-true}
use lib.Dec.{leb}
use lib.ListN.{length}
use Rattle.kinds.specs.Answers.{answer_number, refusal_number}
use Rattle.kinds.proofs.Answering.{refusal-some}
use Rattle.fields.specs.Fields.{field}
use Rattle.extensions.specs.Extensions.{pairs, pointers_answer}
use Rattle.extensions.proofs.ArrayWalk.{counted-short, counted-differ, counted-pointers, counted-rest, pointers-room}
use Rattle.extensions.proofs.counted_answer.Goals as goal

pub returns-then-not-inside : goal.returns-then-not-inside
returns-then-not-inside c = sym (counted-short _ _ _ (sym c.inside.ensures ∙ c.if-not-inside.true))

pub returns-then-read_u32-all : goal.returns-then-read_u32-all
returns-then-read_u32-all c =
    let room : leb (c.args.at + 4) (length c.args.s.now) ≡ true = sym c.inside.ensures ∙ c.if-not-inside.false in
    sym (counted-differ _ _ _ (room) (λ z. c.if-read_u32-all.true (c.read_u32.ensures ∙ z ∙ sym c.paired-all.ensures)))

pub overflow_add-at : goal.overflow_add-at
overflow_add-at c =
    let room : leb (c.args.at + 4) (length c.args.s.now) ≡ true = sym c.inside.ensures ∙ c.if-not-inside.false in
    let fits : c.args.at + 4 ≤ length c.args.s.now = leb-true _ _ (room) in
    omega (arith, fits)

pub returns-in_err-pointers_answer : goal.returns-in_err-pointers_answer
returns-in_err-pointers_answer c =
    let room : leb (c.args.at + 4) (length c.args.s.now) ≡ true = sym c.inside.ensures ∙ c.if-not-inside.false in
    let same : let a = c.args in field a.s.now a.at 4 ≡ pairs a.n = sym c.read_u32.ensures ∙ c.if-read_u32-all.false ∙ c.paired-all.ensures in
    let e = c.in_err-pointers_answer.ensures in
    let n : answer_number c.from_residual.result ≡ refusal_number c.in_err-pointers_answer.field-0.0 = search rules in
    n ∙ e ∙ sym (counted-pointers _ _ _ (room) (same) (refusal-some _ e))

pub overflow_add-at-2 : goal.overflow_add-at-2
overflow_add-at-2 c =
    let room : leb (c.args.at + 4) (length c.args.s.now) ≡ true = sym c.inside.ensures ∙ c.if-not-inside.false in
    let fits : c.args.at + 4 ≤ length c.args.s.now = leb-true _ _ (room) in
    let all : let a = c.args in pointers_answer a.s.now (a.at + 4) a.n ≡ 0 = sym c.in_ok-pointers_answer.ensures in
    let past : let a = c.args in a.at + 4 + 4 * a.n ≤ length a.s.now = pointers-room _ _ _ (fits) (all) in
    omega (arith, past)

pub overflow_add-at-3 : goal.overflow_add-at-3
overflow_add-at-3 c =
    let room : leb (c.args.at + 4) (length c.args.s.now) ≡ true = sym c.inside.ensures ∙ c.if-not-inside.false in
    let fits : c.args.at + 4 ≤ length c.args.s.now = leb-true _ _ (room) in
    let all : let a = c.args in pointers_answer a.s.now (a.at + 4) a.n ≡ 0 = sym c.in_ok-pointers_answer.ensures in
    let past : let a = c.args in a.at + 4 + 4 * a.n ≤ length a.s.now = pointers-room _ _ _ (fits) (all) in
    omega (arith, past)

pub returns : goal.returns
returns c =
    let room : leb (c.args.at + 4) (length c.args.s.now) ≡ true = sym c.inside.ensures ∙ c.if-not-inside.false in
    let same : let a = c.args in field a.s.now a.at 4 ≡ pairs a.n = sym c.read_u32.ensures ∙ c.if-read_u32-all.false ∙ c.paired-all.ensures in
    let all : let a = c.args in pointers_answer a.s.now (a.at + 4) a.n ≡ 0 = sym c.in_ok-pointers_answer.ensures in
    let e = rw c.paired-all.ensures at c.padding_answer.ensures in
    e ∙ sym (counted-rest _ _ _ (room) (same) (all))
