-- `fields::read_guid`: two fields of 8 bytes; without the first there is no second.
use Prim.Native.Nat.{◌+◌, ◌<◌, ◌≤◌}
use mathlib.Core.Path.{◌≡◌, sym, ◌∙◌}
use native.Mathlib.Omega.{arith}
use borrow.Author.Tests.{leb-true, leb-false}
use lib.ListN.{length}
use Rattle.fields.specs.Fields.{field}
use Rattle.fields.proofs.Fields.{field_out}
use Rattle.fields.proofs.read_guid.Goals as goal

pub overflow_add-at : goal.overflow_add-at
overflow_add-at c =
    let room : c.args.at + 8 ≤ length c.args.s.now =
    leb-true _ _ (sym c.inside.ensures ∙ c.if-inside.true) in omega arith

pub returns-then-inside : goal.returns-then-inside
returns-then-inside c = λ u. record { low = c.read_u64.ensures u; high = c.read_u64-then-inside.ensures u }

pub returns-else-inside : goal.returns-else-inside
returns-else-inside c =
    let a = c.args in
    let outside : length a.s.now < a.at + 8 = leb-false _ _ (sym c.inside.ensures ∙ c.if-inside.false) in
    let low : field a.s.now a.at 8 ≡ 0 = field_out a.s.now a.at 8 outside in
    let high : field a.s.now (a.at + 8) 8 ≡ 0 = field_out a.s.now (a.at + 8) 8 (omega arith) in
    rw (low, high)
