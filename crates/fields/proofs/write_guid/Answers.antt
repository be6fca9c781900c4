-- `fields::write_guid`: two fields, one right after the other, where both fit.
use Prim.Native.Nat.{◌+◌, ◌<◌, ◌≤◌}
use mathlib.Core.Path.{sym, ◌∙◌}
use native.Mathlib.Omega.{arith}
use borrow.Author.Tests.{leb-true, leb-false}
use lib.ListN.{length}
use Rattle.fields.specs.Fields.{guid_bytes}
use Rattle.fields.proofs.Fields.{first_field, then-field, written_out, length-guid}
use Rattle.fields.proofs.write_guid.Goals as goal

pub overflow_add-at : goal.overflow_add-at
overflow_add-at c =
    let a = c.args in
    let room : a.at + 16 ≤ length a.buf.now = leb-true _ _ (sym c.inside.ensures ∙ c.if-inside.true) in omega arith

pub returns-then-inside : goal.returns-then-inside
returns-then-inside c =
    let a = c.args in
    let room : a.at + 8 + 8 ≤ length a.buf.now = omega (arith, leb-true (a.at + 16) (length a.buf.now) (sym c.inside.ensures ∙ c.if-inside.true)) in
    let low = first_field 8 a.g.low c.write_u64.ensures in
    (then-field 8 a.g.high low room c.write_u64-then-inside.ensures).holds

pub returns-else-inside : goal.returns-else-inside
returns-else-inside c =
    let a = c.args in
    let outside : length a.buf.now < a.at + 16 = leb-false _ _ (sym c.inside.ensures ∙ c.if-inside.false) in
    sym (written_out a.buf.now a.at (guid_bytes a.g) (rw (length-guid a.g) outside))
