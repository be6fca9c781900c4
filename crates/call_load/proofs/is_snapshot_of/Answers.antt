-- `call_load::is_snapshot_of`: the buffer holds the table's own snapshot, which is compared.
use mathlib.Core.Path.{refl, sym, ap, ◌∙◌}
use native.Mathlib.Omega.{arith}
use Prim.Native.Nat.{ℕ}
use mathlib.Core.List.{List}
use lib.ListN.{length-replicate}
use lib.Seq.{length-take-le}
use Rattle.kinds.proofs.Answering.{refusal-some}
use Rattle.bindings.specs.Bindings.{same_words}
use Rattle.table_view.specs.View.{memory}
use Rattle.table_view.specs.Fitting.{Lent}
use Rattle.call_load.proofs.Loading.{lent, written-done, written-inside, written-own}
use Rattle.call_load.proofs.is_snapshot_of.Goals as goal

pub returns-in-Ok : goal.returns-in-Ok
returns-in-Ok c =
    let lent-here : let a = c.args in Lent (memory a.words.now a.store.now) =
    lent _ _ c.requires (λ i. let z = c.type_inv.words i in omega arith) (λ i. let z = c.type_inv.store i in omega arith) in
    c.same_bytes.ensures
    ∙ ap (λ (x : List ℕ). same_words x c.args.s.now)
    (written-own _ c.requires lent-here _ _ (record { answer = 0; length = c.in-Ok.n }) (length-replicate {A = ℕ} 64698 0) c.in-Ok.ensures)

pub returns-in-Err : goal.returns-in-Err
returns-in-Err c =
    let lent-here : let a = c.args in Lent (memory a.words.now a.store.now) =
    lent _ _ c.requires (λ i. let z = c.type_inv.words i in omega arith) (λ i. let z = c.type_inv.store i in omega arith) in
    absurd (refusal-some c.in-Err.field-0 refl
    (written-done _ c.requires lent-here _ _ (record { answer = _; length = 0 }) (length-replicate {A = ℕ} 64698 0) c.in-Err.ensures))

pub slice_bounds-own-end : goal.slice_bounds-own-end
slice_bounds-own-end c =
    let lent-here : let a = c.args in Lent (memory a.words.now a.store.now) =
    lent _ _ c.requires (λ i. let z = c.type_inv.words i in omega arith) (λ i. let z = c.type_inv.store i in omega arith) in
    written-inside _ c.requires lent-here _ _ (record { answer = 0; length = c.in-Ok.n }) (length-replicate {A = ℕ} 64698 0) c.in-Ok.ensures

pub slice_bounds-same_bytes-end : goal.slice_bounds-same_bytes-end
slice_bounds-same_bytes-end c =
    let lent-here : let a = c.args in Lent (memory a.words.now a.store.now) =
    lent _ _ c.requires (λ i. let z = c.type_inv.words i in omega arith) (λ i. let z = c.type_inv.store i in omega arith) in
    sym (length-take-le _ _ (written-inside _ c.requires lent-here _ _ (record { answer = 0; length = c.in-Ok.n }) (length-replicate {A = ℕ} 64698 0) c.in-Ok.ensures))
