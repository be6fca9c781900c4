-- `bindings::bytes_of`: the bytes from where the place begins to where it ends.
use mathlib.Core.Path.{refl, sym, ap}
use native.Mathlib.Nat.{zero-add}
use Rattle.bindings.proofs.bytes_of.Goals as goal

pub returns-in-Ok : goal.returns-in-Ok
returns-in-Ok c = rw c.in-Ok.is (record { bytes = refl; begins = refl })

pub returns-in-Err : goal.returns-in-Err
returns-in-Err c = rw c.in-Err.is (record { bytes = refl; begins = ap (λ n. (c.args.s.ref_ptr.0, n)) (sym (zero-add _)) })
