-- `extensions::stated`: the three numbers of an accepted header.
use mathlib.Core.Path.{sym, ◌∙◌}
use native.Mathlib.Omega.{arith}
use borrow.Author.Tests.{eq-eqb, ne_eqb}
use Rattle.extensions.specs.Extensions.{read_extensions, extensions_count}
use Rattle.extensions.proofs.ArrayWalk.{accepted}
use Rattle.extensions.proofs.stated.Goals as goal

pub returns-then-pointer-eq0 : goal.returns-then-pointer-eq0
unfolding read_extensions extensions_count
returns-then-pointer-eq0 c = rw (eq-eqb _ _ c.requires, sym c.read_u32-pointer.ensures ∙ c.if-pointer-eq0.true)

pub overflow_add-at : goal.overflow_add-at
overflow_add-at c = let h = (accepted _ _ c.requires).front (λ z. c.if-pointer-eq0.false (c.read_u32-pointer.ensures ∙ z)) in omega (arith, h.room)

pub overflow_add-at-2 : goal.overflow_add-at-2
overflow_add-at-2 c = let h = (accepted _ _ c.requires).front (λ z. c.if-pointer-eq0.false (c.read_u32-pointer.ensures ∙ z)) in omega (arith, h.room)

pub returns : goal.returns
unfolding read_extensions extensions_count
returns c =
    let first = c.read_u32-pointer.ensures in
    rw (eq-eqb _ _ c.requires, ne_eqb _ _ (λ z. c.if-pointer-eq0.false (first ∙ z)), first, c.read_u32.ensures, c.read_u32-2.ensures)
