-- `Extension::numbered`: 24, or extension k.
use Prim.Native.Nat.{◌<◌, ◌≤◌}
use mathlib.Core.Path.{◌≡◌, sym, ◌∙◌}
use native.Mathlib.Omega.{arith}
use borrow.Author.Tests.{lt-ltb, le-ltb, eq-eqb, ne_eqb}
use Rattle.fields.specs.Fields.{field}
use Rattle.extensions.specs.Extensions.{count_at, extensions_count, extension_at}
use Rattle.extensions.proofs.ArrayWalk.{accepted, some-array}
use Rattle.extensions.proofs.Found.numbered.Goals as goal

pub returns-then-read_u32-eq0 : goal.returns-then-read_u32-eq0
unfolding extension_at extensions_count
returns-then-read_u32-eq0 c =
    let none : 0 ≤ c.args.k = omega arith in
    rw (eq-eqb _ _ c.requires, sym c.read_u32.ensures ∙ c.if-read_u32-eq0.true, le-ltb _ _ none)

pub overflow_add-at : goal.overflow_add-at
overflow_add-at c =
    let some : let a = c.args in field a.s.now a.at 4 ≡ 0 → ⊥ = λ z. c.if-read_u32-eq0.false (c.read_u32.ensures ∙ z) in
    let h = (accepted _ _ c.requires).front (some) in omega (arith, h.room)

pub returns-then-n-k : goal.returns-then-n-k
unfolding extension_at extensions_count
returns-then-n-k c =
    let some : let a = c.args in field a.s.now a.at 4 ≡ 0 → ⊥ = λ z. c.if-read_u32-eq0.false (c.read_u32.ensures ∙ z) in
    let a = c.args in
    let n = c.read_u32-n.ensures in
    let past : count_at a.s.now a.at ≤ a.k = omega arith in
    rw (eq-eqb _ _ c.requires, ne_eqb _ _ (some), le-ltb _ _ past)

pub read-requires : goal.read-requires
read-requires c =
    let some : let a = c.args in field a.s.now a.at 4 ≡ 0 → ⊥ = λ z. c.if-read_u32-eq0.false (c.read_u32.ensures ∙ z) in
    let a = c.args in
    let n = c.read_u32-n.ensures in
    let ok = accepted a.s.now a.at c.requires in
    let f = ok.front (some) in
    let y = some-array a.s.now a.at a.k f (omega arith) in
    (rw n (omega (arith, (ok.counted (some) y).room)), rw n (ok.extents (some) y), omega arith, omega (arith, f.few))

pub returns : goal.returns
unfolding extension_at extensions_count
returns c =
    let some : let a = c.args in field a.s.now a.at 4 ≡ 0 → ⊥ = λ z. c.if-read_u32-eq0.false (c.read_u32.ensures ∙ z) in
    let a = c.args in
    let n = c.read_u32-n.ensures in
    let here : a.k < count_at a.s.now a.at = omega arith in
    rw (eq-eqb _ _ c.requires, ne_eqb _ _ (some), lt-ltb _ _ here) (rw n at c.read.ensures)
