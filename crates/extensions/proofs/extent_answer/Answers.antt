-- `extensions::extent_answer`: the rows of `extent_answer`.
use Prim.Native.Nat.{◌+◌, ◌≤◌}
use mathlib.Core.Path.{◌≡◌, sym, ap, ◌∙◌}
use mathlib.Core.Bool.{true}
use native.Mathlib.Omega.{arith}
use borrow.Author.Tests.{leb-true}
use lib.Dec.{leb}
use lib.ListN.{length}
use Rattle.fields.specs.Fields.{field, rounded}
use Rattle.extensions.specs.Extensions.{size_at}
use Rattle.extensions.proofs.ArrayWalk.{extent-short, extent-sizes, extent-cut, extent-rest}
use Rattle.extensions.proofs.extent_answer.Goals as goal
use Rattle.extensions.proofs.extent_answer.Goals.{Else-not-inside, Else-read_u32-whole, Else-not-inside-2, After-rounded-whole}

-- the 24 bytes are there
fixed : (c : Else-not-inside) → leb (c.args.at + 24) (length c.args.s.now) ≡ true
fixed c = sym c.inside.ensures ∙ c.if-not-inside.false

room : (c : Else-not-inside) → c.args.at + 24 ≤ length c.args.s.now
room c = leb-true _ _ (fixed c)

-- the size that is read, rounded
whole : (c : After-rounded-whole) → c.rounded-whole.result ≡ rounded (size_at c.args.s.now c.args.at)
whole c = c.rounded-whole.ensures ∙ ap rounded c.read_u32-size.ensures

-- the two sizes agree
sizes : (c : Else-read_u32-whole) → field c.args.s.now c.args.at 4 ≡ rounded (size_at c.args.s.now c.args.at)
sizes c = sym c.read_u32.ensures ∙ c.if-read_u32-whole.false ∙ c.rounded-whole.ensures ∙ ap rounded c.read_u32-size.ensures

-- the data are there
content : (c : Else-not-inside-2) → leb (c.args.at + 24 + size_at c.args.s.now c.args.at) (length c.args.s.now) ≡ true
content c = sym (rw c.read_u32-size.ensures at c.inside-2.ensures) ∙ c.if-not-inside-2.false

pub returns-then-not-inside : goal.returns-then-not-inside
returns-then-not-inside c = sym (extent-short c.args.s.now c.args.at (sym c.inside.ensures ∙ c.if-not-inside.true))

pub overflow_add-at : goal.overflow_add-at
overflow_add-at c = omega (arith, room (goal.at.overflow_add-at c).Else-not-inside)

pub returns-then-read_u32-whole : goal.returns-then-read_u32-whole
returns-then-read_u32-whole c =
    let p = goal.at.returns-then-read_u32-whole c in
    sym (extent-sizes c.args.s.now c.args.at (fixed p.Else-not-inside) (λ z. c.if-read_u32-whole.true (c.read_u32.ensures ∙ z ∙ sym (whole p.After-rounded-whole))))

pub overflow_add-at-2 : goal.overflow_add-at-2
overflow_add-at-2 c = omega (arith, room (goal.at.overflow_add-at-2 c).Else-not-inside)

pub returns-then-not-inside-2 : goal.returns-then-not-inside-2
returns-then-not-inside-2 c =
    let p = goal.at.returns-then-not-inside-2 c in
    let e = rw c.read_u32-size.ensures at c.inside-2.ensures in
    sym (extent-cut c.args.s.now c.args.at (fixed p.Else-not-inside) (sizes p.Else-read_u32-whole) (sym e ∙ c.if-not-inside-2.true))

pub overflow_add-at-3 : goal.overflow_add-at-3
overflow_add-at-3 c = omega (arith, room (goal.at.overflow_add-at-3 c).Else-not-inside)

pub overflow_add-at-4 : goal.overflow_add-at-4
overflow_add-at-4 c = omega (arith, c.read_u32-size.ensures, leb-true _ _ (content (goal.at.overflow_add-at-4 c).Else-not-inside-2))

pub returns : goal.returns
returns c =
    let p = goal.at.returns c in
    let e = rw (whole p.After-rounded-whole, c.read_u32-size.ensures) at c.padding_answer.ensures in
    e ∙ sym (extent-rest c.args.s.now c.args.at (fixed p.Else-not-inside) (sizes p.Else-read_u32-whole) (content p.Else-not-inside-2))
