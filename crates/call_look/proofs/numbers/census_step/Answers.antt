-- `numbers::census_step`: each count is the length of its kind's entries.
use mathlib.Core.Path.{◌≡◌, refl}
use mathlib.Core.List.{List, [], ◌∷◌}
use Prim.Native.Nat.{ℕ}
use Rattle.kinds.specs.Refusals.{order}
use Rattle.rules.specs.Calls.{Call, Look}
use Rattle.rules.specs.Rules.{live_numbers, refusals, number, next, results, accepted_reply}
use Rattle.table_view.specs.View.{exporter_count, object_count, interface_count, set_count, memory, view, Stepped}
use Rattle.table_view.proofs.LiveRows.{exporters-length, objects-length, interfaces-length, sets-length}
use Rattle.table_view.proofs.Steps.{accepted-step}
use Rattle.call_look.specs.Replies.{census_reply}
use Rattle.call_look.proofs.numbers.census_step.Goals as goal

counted : (ws s : List ℕ) (x o i p : ℕ) → x ≡ exporter_count ws → o ≡ object_count ws → i ≡ interface_count ws → p ≡ set_count ws
    → Stepped (Call.looking Look.census) (memory ws s) (census_reply (record { answer = 0; exporters = x; objects = o; interfaces = i; sets = p })) (memory ws s)
unfolding accepted_reply results number refusals order next
counted ws s x o i p exporters objects interfaces sets =
    let counts : live_numbers (view (memory ws s)) ≡ x ∷ o ∷ i ∷ p ∷ [] = cc (exporters-length ws s, objects-length ws, interfaces-length ws, sets-length ws) in
    rw (← counts) (accepted-step 0 refl refl (memory ws s) refl)

pub returns : goal.returns
returns c = search counted
