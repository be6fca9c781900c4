-- `table_edit::add_object`: a row of the objects is entered.
use Rattle.std.proofs.Common.{◌≡◌, ℕ, Bool, true, false, not, eqb, arith, rules}
use Rattle.std.specs.Int.{from_bool}
use Rattle.table_edit.proofs.ObjectMembers.{object-pushed}
use Rattle.table_edit.proofs.add_object.Goals as goal

-- the word of a no-ping mark
marked : (mark : Bool) {w : ℕ} → w ≡ from_bool mark → not (eqb w 0) ≡ mark
marked true e = rw e
marked false e = rw e

pub returns : goal.returns
returns c =
    let e = c.object_count-n.ensures.0 in
    rw (marked _ c.from.ensures) at (object-pushed _ _ _ _ e (omega arith) c.requires.2 (rw c.object_kind.ensures at c.push_row.ensures))

pub push_row-requires : goal.push_row-requires
push_row-requires c = rw c.object_kind.ensures (search rules)
