-- `rows::put_member`: nothing is written where the row is no member.
use mathlib.Core.Path.{refl, sym, ◌∙◌}
use Rattle.snapshot_rows.proofs.rows.FieldByField.{wrote-number, member-none, member-put}
use Rattle.snapshot_rows.proofs.rows.put_member.Goals as goal

pub returns : goal.returns
returns c =
    member-put (sym c.has.ensures ∙ c.if-not-has.false)
    (wrote-number 8 c.oid-oid.ensures c.write_u64.ensures refl)

pub returns-then-not-has : goal.returns-then-not-has
returns-then-not-has c = member-none (sym c.has.ensures ∙ c.if-not-has.true) _ _ _
