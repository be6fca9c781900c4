-- `extents::first`: an accepted header has its pointers and extensions behind its count.
use mathlib.Core.Path.{sym, ◌∙◌}
use native.Mathlib.Omega.{arith}
use borrow.Author.Tests.{eq-eqb, ne_eqb}
use Rattle.extensions.proofs.ArrayWalk.{Fronted, accepted}
use Rattle.cursors.specs.Cursors.{extensions_cursor}
use Rattle.cursors.proofs.extents.first.Goals as goal

pub returns-then-read_u32-eq0 : goal.returns-then-read_u32-eq0
unfolding extensions_cursor
returns-then-read_u32-eq0 c =
    rw (eq-eqb _ _ c.requires, sym c.read_u32.ensures ∙ c.if-read_u32-eq0.true)

pub overflow_add-result-3 : goal.overflow_add-result-3
overflow_add-result-3 c =
    let front : Fronted c.args.s.now c.args.at = (accepted _ _ c.requires).front (λ z. c.if-read_u32-eq0.false (c.read_u32.ensures ∙ z)) in
    let h = front in
    let n = c.paired.ensures in
    omega (arith, h.room)

pub returns : goal.returns
unfolding extensions_cursor
returns c =
    rw (eq-eqb _ _ c.requires, ne_eqb _ _ (λ z. c.if-read_u32-eq0.false (c.read_u32.ensures ∙ z)), c.paired.ensures, c.read_u32-n.ensures)

pub overflow_add-at : goal.overflow_add-at
overflow_add-at c =
    let front : Fronted c.args.s.now c.args.at = (accepted _ _ c.requires).front (λ z. c.if-read_u32-eq0.false (c.read_u32.ensures ∙ z)) in
    let h = front in omega (arith, h.room)

pub overflow_add-result : goal.overflow_add-result
overflow_add-result c =
    let front : Fronted c.args.s.now c.args.at = (accepted _ _ c.requires).front (λ z. c.if-read_u32-eq0.false (c.read_u32.ensures ∙ z)) in
    let h = front in omega (arith, h.room)

pub overflow_add-result-2 : goal.overflow_add-result-2
overflow_add-result-2 c =
    let front : Fronted c.args.s.now c.args.at = (accepted _ _ c.requires).front (λ z. c.if-read_u32-eq0.false (c.read_u32.ensures ∙ z)) in
    let h = front in omega (arith, h.room)
