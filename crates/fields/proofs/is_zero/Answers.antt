-- `fields::is_zero`: the number is zero exactly where each of its bytes is.
use mathlib.Core.Path.{sym, ◌∙◌}
use borrow.Author.Tests.{leb-true, leb-false}
use Prim.Native.Nat.{◌+◌, ◌-◌}
use lib.Dec.{eqb}
use lib.ListN.{take, drop}
use Rattle.std.proofs.Common.{rules, tests}
use Rattle.std.proofs.lemmas.Iterator.{YieldsList-from_slice}
use Rattle.std.proofs.lemmas.Iterator.Search.{all_from_yields_List}
use Rattle.fields.proofs.Fields.{field_out, zero_part}
use Rattle.fields.proofs.is_zero.Goals as goal

pub returns-then-not-inside : goal.returns-then-not-inside
returns-then-not-inside c =
    let a = c.args in
    rw (c.if-not-inside.true, field_out a.s.now a.at a.w (leb-false _ _ (sym c.inside.ensures ∙ c.if-not-inside.true)))

pub returns-else-not-inside : goal.returns-else-not-inside
returns-else-not-inside c =
    let a = c.args in
    let room = leb-true _ _ (sym c.inside.ensures ∙ c.if-not-inside.false) in
    let part = take (a.at + a.w - a.at) (drop a.at a.s.now) in
    all_from_yields_List {all = part} (λ b. eqb b 0) _ _ _ c.all.ensures.ran (YieldsList-from_slice part cc) (λ x b q k. search (rules, tests))
    ∙ zero_part a.s.now a.at a.w room
