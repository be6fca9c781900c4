-- `resolver::next_stop`: the bytes of the place, in the store or in the reference.
use mathlib.Core.Path.{sym, ap, ◌∙◌}
use native.Mathlib.Nat.{zero-add}
use Rattle.call_look.proofs.Stopping.{found_part}
use Rattle.resolver.proofs.next_stop.Goals as goal

pub returns-in-Ok-InStore : goal.returns-in-Ok-InStore
returns-in-Ok-InStore c = let a = c.args in rw c.in-Ok-InStore.field-0-is at (found_part c.in-Ok-InStore.ensures a.store.ref_ptr a.reference.ref_ptr)

pub returns-in-Ok-InReference : goal.returns-in-Ok-InReference
returns-in-Ok-InReference c = let a = c.args in rw c.in-Ok-InReference.field-0-is at (found_part c.in-Ok-InReference.ensures a.store.ref_ptr a.reference.ref_ptr)

pub returns-in-Err : goal.returns-in-Err
returns-in-Err c =
    let a = c.args in
    let f = found_part c.in-Err.ensures a.store.ref_ptr a.reference.ref_ptr in
    record { bytes = f.bytes; begins = ap (λ n. (a.reference.ref_ptr.0, n)) (sym (zero-add _)) ∙ f.begins }
