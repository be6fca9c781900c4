-- `replay_step::answers`: the tests of `numbers_are` in their order.
use mathlib.Core.Path.{sym, ap, ◌∙◌}
use borrow.Author.Tests.{ne_eqb}
use lib.Dec.{eqb}
use Rattle.replay_step.proofs.Doing.{not-these, these}
use Rattle.replay_step.proofs.answers.Goals as goal

pub returns-then-read_u64-number : goal.returns-then-read_u64-number
returns-then-read_u64-number c =
    let a = c.args in
    not-these a.s.now a.number a.a a.b a.c a.d 0 (ne_eqb _ _ (λ z. c.if-read_u64-number.true (c.read_u64.ensures ∙ z)))

pub returns-then-read_u64-a : goal.returns-then-read_u64-a
returns-then-read_u64-a c =
    let a = c.args in
    not-these a.s.now a.number a.a a.b a.c a.d 1 (ne_eqb _ _ (λ z. c.if-read_u64-a.true (c.read_u64-2.ensures ∙ z)))

pub returns-then-read_u64-b : goal.returns-then-read_u64-b
returns-then-read_u64-b c =
    let a = c.args in
    not-these a.s.now a.number a.a a.b a.c a.d 2 (ne_eqb _ _ (λ z. c.if-read_u64-b.true (c.read_u64-3.ensures ∙ z)))

pub returns-then-read_u64-c : goal.returns-then-read_u64-c
returns-then-read_u64-c c =
    let a = c.args in
    not-these a.s.now a.number a.a a.b a.c a.d 3 (ne_eqb _ _ (λ z. c.if-read_u64-c.true (c.read_u64-4.ensures ∙ z)))

pub returns : goal.returns
returns c =
    let a = c.args in
    ap (λ n. eqb n a.d) c.read_u64-5.ensures
    ∙ these a.s.now a.number a.a a.b a.c a.d
    (sym c.read_u64.ensures ∙ c.if-read_u64-number.false)
    (sym c.read_u64-2.ensures ∙ c.if-read_u64-a.false)
    (sym c.read_u64-3.ensures ∙ c.if-read_u64-b.false)
    (sym c.read_u64-4.ensures ∙ c.if-read_u64-c.false)
